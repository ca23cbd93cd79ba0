-- The round trips. Assumes nothing.
pub mod RoundLaws
pub mod PackedLaws
pub mod OrderLaws
