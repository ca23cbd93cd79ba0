pub mod OptionLaws
pub mod NameLaws
pub mod GatherLaws
pub mod LineLaws
pub mod CoverLaws
pub mod ReadLaws
pub mod PartLaws
