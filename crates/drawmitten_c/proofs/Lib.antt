-- The laws of the C boundary. Assumes nothing.
pub mod BoundaryLaws
pub mod SizeLaws
