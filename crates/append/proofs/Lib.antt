-- The laws of appending. Assumes nothing.
pub mod RoomLaws
pub mod LastLaws
pub mod DecideLaws
pub mod AppendLaws
pub mod AppendedLaws
