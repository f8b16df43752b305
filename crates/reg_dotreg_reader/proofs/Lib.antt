pub mod WordEnds
pub mod DigitLists
pub mod PlainBytes
pub mod QuotedUnits
pub mod TextLines
pub mod ValueRows
pub mod CharacterUnits
pub mod RootNames
pub mod EntryReadings
pub mod EntrySteps
pub mod EntriesOnLiterals
pub mod StopPlaces
pub mod StopSteps
pub mod LinePlaces
pub mod BadSteps
pub mod ToldTexts
mod RowsOfEntryLines
mod RowsOfEntryBytes
mod RowsOfEntryReading
mod RowsOfBadLines
