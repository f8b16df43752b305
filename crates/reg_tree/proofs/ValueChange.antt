-- A key's values changed.
pub mod ValueExchange
pub mod LargestLengths
pub mod TreeAfterValueChange
pub mod ValueAtPlace
pub mod ValuesBuilt
pub mod ValuesMore
pub mod ValueCells
pub mod NotedNames
