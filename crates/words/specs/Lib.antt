-- The lines of a text and their words (request 2). Assumes nothing.
pub mod Text
pub mod Next
pub mod Left
