-- What can be said of input. Assumes nothing.
pub mod Input
