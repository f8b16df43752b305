pub mod Blames
pub mod Queries
pub mod TypedQueries
pub mod KeyQueries
pub mod Finds
pub mod Differs
pub mod ImageExports
pub mod ImageChanges
