-- The types that occur, and the most variables of each. Assumes nothing.
pub mod Survey
