-- One call for a whole build. Assumes nothing.
pub mod Batch
