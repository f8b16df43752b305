pub mod InsertedChildren
pub mod LeftPaths
pub mod CopySteps
pub mod CopyEnds
pub mod FrontValues
pub mod KeyRoom
pub mod KeyParts
