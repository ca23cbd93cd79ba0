-- The laws of lists of records. Assumes nothing.
pub mod OrderLaws
pub mod NextLaws
pub mod FollowsLaws
pub mod BytesLaws
pub mod ListedLaws
pub mod LengthLaws
pub mod PlaceLaws
pub mod ReadingLaws
pub mod PartLaws
pub mod AppendingLaws
pub mod ChainLaws
