-- Words for the layout of a text, and every table as a cover. Assumes nothing.
pub mod Layout
pub mod Written
