-- Wirings, what fits them, and the test of one wiring. Assumes nothing.
pub mod Wire
pub mod Fits
pub mod Test
