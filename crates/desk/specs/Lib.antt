-- The text of a cover and its line. Assumes nothing.
pub mod Desk
