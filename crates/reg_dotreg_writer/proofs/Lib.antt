pub mod PieceBytes
pub mod EntryUnits
pub mod EntryPieces
pub mod BlockSteps
pub mod NamesOnWay
pub mod WritableNames
pub mod EncodedTexts
pub mod WholeEntries
pub mod FileSteps
pub mod ShownRoots
pub mod ToldNames
mod RowsOfEntries
mod RowsOfFiles
pub mod StringsBack
pub mod ChangeBytes
pub mod ToldValues
pub mod ToldChanges
pub mod FileChanges
pub mod ChangeLines
