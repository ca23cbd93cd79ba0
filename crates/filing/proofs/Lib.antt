-- The laws of filing. Assumes nothing.
pub mod FilingLaws
pub mod WithinLaws
pub mod FiledLaws
pub mod OfferedLaws
pub mod CappedLaws
