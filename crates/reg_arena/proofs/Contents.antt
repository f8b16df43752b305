-- What the cells hold, after an edit of the bytes.
pub mod ByteSplices
pub mod CellContents
pub mod CellWrites
pub mod CellCopies
