-- The worked examples. Assumes nothing.
pub mod Worked
