-- The laws of the lines of a build. Assumes nothing.
pub mod RequestLineLaws
pub mod ListingLaws
pub mod PrintLaws
