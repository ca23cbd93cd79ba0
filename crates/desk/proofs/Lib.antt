-- The laws of what is told of a cover. Assumes nothing.
pub mod DeskLaws
pub mod MatchedLaws
pub mod NumberLaws
