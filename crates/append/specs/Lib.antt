-- A record added to a sheet. Assumes nothing.
pub mod Append
