-- The laws of a sheet's lines. Assumes nothing.
pub mod PrintLaws
pub mod CellLaws
pub mod LineLaws
pub mod ListLaws
pub mod WordLaws
pub mod BackLaws
pub mod Shown
