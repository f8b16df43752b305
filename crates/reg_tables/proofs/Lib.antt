pub mod DatesTold
pub mod TimesTold
pub mod UnitParts
pub mod SecurityParts
pub mod EntryTexts
pub mod OneName
pub mod KeyNames
pub mod GatheredKeys
pub mod TableTexts
pub mod Shielded
pub mod LaidTexts
pub mod PreciseTimes
pub mod KeysInOrder
pub mod TimelineTexts
pub mod TypedTexts
pub mod FoundValues
pub mod LongLines
pub mod RowsOfTimes
pub mod RowsOfValueForms
pub mod RowsOfFormsTold
pub mod RowsOfSecurityTexts
pub mod RowsOfTables
pub mod RowsOfPages
mod PlainListings
mod RowsOfLongListings
pub mod RowsOfTimelines
