pub mod TableLaws
pub mod CellsLaws
pub mod RoomLaws
pub mod MarkLaws
pub mod AddLaws
pub mod CoverLaws
pub mod NumbersCleared
