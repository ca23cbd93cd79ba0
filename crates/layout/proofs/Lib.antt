-- What of a text does not change what is read, and every table as a cover. Assumes nothing.
pub mod InLineLaws
pub mod InTextLaws
pub mod ExchangeLaws
pub mod LayoutLaws
pub mod OrderLaws
pub mod TextLaws
pub mod NameLaws
pub mod MarkLaws
pub mod RowLaws
pub mod WrittenLaws
