-- The laws of contents. Assumes nothing.
pub mod TurnLaws
pub mod ChoiceLaws
pub mod FillLaws
pub mod MinimumLaws
pub mod GatherLaws
pub mod PoleLaws
pub mod WithTableLaws
pub mod SideLaws
pub mod StandLaws
pub mod LeastLaws
