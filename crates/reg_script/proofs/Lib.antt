pub mod NumberWords
pub mod EscapedNames
pub mod LineSpaces
pub mod WordReadingLemmas
pub mod LineMeaningLemmas
pub mod FailedCalls
pub mod ProgressLemmas
pub mod LinesThatFail
pub mod ScriptHalts
pub mod ScriptParts
pub mod ScriptEnds
pub mod KeptKeys
pub mod OneText
mod RowsOfLines
mod RowsOfScripts
mod RowsOfStops
