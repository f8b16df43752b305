pub mod CellFrame
pub mod ChildrenOfPath
pub mod DeletedTrees
pub mod RowsOfTrees
mod RowsOfDeletedTrees
mod RowsOfLimits
