-- The laws of the filter. Assumes nothing.
pub mod SetLaws
pub mod TwoLaws
pub mod WordLaws
pub mod FillLaws
pub mod SupportLaws
pub mod FitLaws
pub mod ChoiceLaws
pub mod ListedLaws
pub mod OneLaws
