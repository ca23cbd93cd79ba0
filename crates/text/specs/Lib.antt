-- The lines that the programs print. Assumes nothing.
pub mod Line
