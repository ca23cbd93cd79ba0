-- The laws of input. Assumes nothing.
pub mod BytesLaws
pub mod RoomLaws
