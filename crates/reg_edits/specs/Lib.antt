pub mod Edits
pub mod KeyChanges
pub mod KeyCopies
pub mod TextImports
