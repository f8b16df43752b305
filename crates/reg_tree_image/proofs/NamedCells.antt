-- Cells of foreign bins: which there are, what they hold, and what naming one makes of the table.
pub mod BinScans
pub mod BadBins
pub mod CellMarks
pub mod BinTables
pub mod CellContents
pub mod CellNaming
