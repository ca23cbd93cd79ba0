-- The laws of the lines. Assumes nothing.
pub mod TextLaws
pub mod BlockLaws
pub mod NumberLaws
