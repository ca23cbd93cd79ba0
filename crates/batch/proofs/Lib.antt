-- The laws of a batch. Assumes nothing.
pub mod SlotLaws
pub mod BatchLaws
pub mod SingleLaws
