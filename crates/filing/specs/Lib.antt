-- A function filed as a record of a sheet. Assumes nothing.
pub mod Table
pub mod Cover
pub mod Filed
