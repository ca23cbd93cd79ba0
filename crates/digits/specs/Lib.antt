-- Numbers and bytes as text, there and back. Assumes nothing.
pub mod Digits
pub mod Spelled
