-- A shape that has all cells makes a whole hive.
pub mod ShapeCounts
pub mod FewerNumbers
pub mod ShapeRecords
pub mod WholeShapes
pub mod AllocatedCells
pub mod WholeAfterExchange
