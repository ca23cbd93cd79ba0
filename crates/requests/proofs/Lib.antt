-- The laws of a build. Assumes nothing.
pub mod RequestLaws
pub mod FirstLaws
pub mod CountLaws
pub mod EachLaws
pub mod LaidLaws
pub mod FillLaws
