-- The marks of a cover line (request 2). Assumes nothing.
pub mod Marks
pub mod Rows
