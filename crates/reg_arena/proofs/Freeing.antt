-- A cell is freed, and merges with the free cells beside it.
pub mod MergedCells
pub mod Neighbours
pub mod FreeNeighbours
pub mod FreedSite
pub mod FreeWhole
