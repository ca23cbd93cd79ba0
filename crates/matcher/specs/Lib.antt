-- Which match is returned, and what the matcher promises. Assumes nothing.
pub mod Match
pub mod Single
pub mod Search
