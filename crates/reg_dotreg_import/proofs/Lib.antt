pub mod OpenHandleLemmas
pub mod OpenNumbers
pub mod MadeChanges
pub mod ImportSteps
pub mod CallsInTurn
pub mod EntrySteps
pub mod ImportedFronts
pub mod WrittenImports
mod RowsOfImports
