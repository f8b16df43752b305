pub mod LiveCells
