-- The ten bytes, their refusals, and the answers of the codec. Assumes nothing.
pub mod Ten
pub mod Order
pub mod Check
pub mod Answers
