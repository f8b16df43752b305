pub mod Contents
pub mod Tiling
pub mod FreeList
pub mod Carving
pub mod RowsOfCells
pub mod RowsOfClasses
pub mod Freeing
