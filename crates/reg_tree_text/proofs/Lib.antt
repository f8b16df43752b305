pub mod SentTexts
pub mod LineSteps
pub mod LineTexts
pub mod WalkSteps
pub mod CountedKeys
pub mod CheckTexts
pub mod ListedLines
pub mod ListedKeys
pub mod SpeltUnits
mod FoundTexts
mod RowsOfDumps
mod RowsOfValueTexts
mod RowsOfListings
