-- The contents of a wiring. Assumes nothing.
pub mod Contents
pub mod Code
