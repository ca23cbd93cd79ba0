-- A sheet's records as lines of text. Assumes nothing.
pub mod Columns
pub mod Back
pub mod Worked
