-- What the search leaves out. Assumes nothing.
pub mod Support
pub mod Choices
pub mod Words
pub mod Two
