-- What the laws of the round trip speak of. Assumes nothing.
pub mod Acceptable
