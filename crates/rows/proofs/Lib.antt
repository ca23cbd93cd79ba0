-- The laws of rows. Assumes nothing.
pub mod SeenLaws
pub mod KeyLaws
