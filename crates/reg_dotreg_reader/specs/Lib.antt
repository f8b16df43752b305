pub mod FileUnits
pub mod EntryLines
pub mod EntryWords
pub mod EntryMeanings
pub mod LineStops
pub mod BadLines
pub mod ToldLines
pub mod Internal
