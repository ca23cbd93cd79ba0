-- What a C program is answered. Assumes nothing.
pub mod Boundary
