-- Bits, rows and fields of numbers and bytes, and tests that compute. No word of the block is here.
-- Assumes nothing.
pub mod Bits
pub mod Tests
pub mod Elements
