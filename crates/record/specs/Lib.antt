-- A record of the patch sheet: its layout, its faults, and what an entry about a sheet answers.
-- Assumes nothing.
pub mod Record
pub mod Fault
pub mod Told
pub mod Answers
