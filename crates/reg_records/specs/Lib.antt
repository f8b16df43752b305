pub mod Letters
pub mod RecordCells
pub mod KeySecurities
pub mod KeyValues
pub mod KeyNodes
pub mod OffsetRows
pub mod SubkeyLists
pub mod BigData
