-- The laws of marks, of the rows that they cover, and of their table. Assumes nothing.
pub mod PartLaws
pub mod MaskLaws
pub mod CoverLaws
pub mod OverLaws
pub mod RowsLaws
pub mod WriteLaws
