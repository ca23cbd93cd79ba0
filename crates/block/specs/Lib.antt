-- The meaning of rows, truth tables, blocks, types and refusals (document 01). Assumes nothing.
pub mod Table
pub mod Block
pub mod Value
pub mod Tidy
pub mod Kind
pub mod Refusal
pub mod Answer
pub mod Code
