-- The table of the 256 sets of at most four of nine variables, and its rule. Assumes nothing.
pub mod Masks
