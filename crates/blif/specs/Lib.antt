-- One `.names` part of BLIF, and its truth table (request 2). Assumes nothing.
pub mod Part
pub mod Cover
pub mod Reading
