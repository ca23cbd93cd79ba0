-- The laws of the table of sets. Assumes nothing.
pub mod MaskLaws
pub mod PinLaws
