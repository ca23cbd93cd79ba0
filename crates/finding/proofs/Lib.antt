-- The laws of what is read in a sheet. Assumes nothing.
pub mod ReadLaws
pub mod FindLaws
