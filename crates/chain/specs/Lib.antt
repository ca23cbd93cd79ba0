-- A list of records that document 01's rules allow, and records appended one by one. Assumes nothing.
pub mod Rules
pub mod Chain
