-- The program's line as text. Assumes nothing.
pub mod Line
