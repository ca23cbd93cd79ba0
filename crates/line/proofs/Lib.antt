-- The laws of the line. Assumes nothing.
pub mod PartLaws
pub mod LineLaws
pub mod SurplusLaws
