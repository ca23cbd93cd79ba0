-- Laws of the tests, of bits and of masks. Assumes nothing.
pub mod UniqueLaws
pub mod TestLaws
pub mod SearchLaws
pub mod ListLaws
pub mod SliceLaws
pub mod AnyLaws
pub mod ElementLaws
pub mod CountLaws
pub mod XorLaws
pub mod BitLaws
pub mod OneBitLaws
pub mod SetLaws
pub mod MaskLaws
pub mod FieldLaws
pub mod RowLaws
