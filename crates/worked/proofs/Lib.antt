-- The worked examples hold. Assumes nothing.
pub mod Shown
