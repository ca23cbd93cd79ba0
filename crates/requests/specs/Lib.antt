-- A build, as requests back to back. Assumes nothing.
pub mod Requests
pub mod Each
pub mod Counting
