-- The answers to the question of a block's type. Assumes nothing.
pub mod Typing
