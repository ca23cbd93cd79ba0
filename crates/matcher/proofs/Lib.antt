-- The laws of matching. Assumes nothing.
pub mod HeadLaws
pub mod UniqueMatch
pub mod NumberLaws
pub mod PlaceLaws
pub mod WiringLaws
pub mod FirstLaws
pub mod WeighLaws
pub mod TrialLaws
pub mod StandLaws
pub mod AnyLaws
pub mod EntryLaws
pub mod BytesLaws
pub mod FiveInputs
