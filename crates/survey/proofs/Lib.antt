-- The survey of the types, and what it says of every tidy block. Assumes nothing.
pub mod CountLaws
pub mod RowLaws
pub mod WiringTest
pub mod TallyLaws
pub mod SurveyLaws
pub mod TidyTypes
