-- The laws of digits. Assumes nothing.
pub mod DigitLaws
pub mod ColumnLaws
pub mod SpelledLaws
pub mod NumberLaws
pub mod BytesLaws
