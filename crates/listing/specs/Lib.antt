-- The lines of a build. Assumes nothing.
pub mod Listing
