pub mod ByteWords
pub mod Paths
pub mod Members
pub mod Kinds
pub mod Heaps
pub mod Edits
pub mod Trees
