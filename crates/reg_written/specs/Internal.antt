pub mod KeyTests
pub mod KeyCells
pub mod ShownSiblings
pub mod RingWalks
pub mod MetDescriptors
pub mod WalkStates
pub mod ArenaTests
