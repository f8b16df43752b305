-- A value's data in cells: written and read back.
pub mod DataPieces
pub mod SegmentReading
pub mod FilledRooms
pub mod FittedRooms
pub mod DataForms
pub mod FilledCells
pub mod StoredData
pub mod NewCellRoom
pub mod WrittenValues
pub mod CellSizeTotals
pub mod RoomRows
