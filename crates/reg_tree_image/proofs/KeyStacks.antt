pub mod StackEnds
pub mod WalkedOn
pub mod RoomierTrees
pub mod BuiltChains
pub mod ChildCounts
pub mod WalkTurns
pub mod KeysTold
pub mod CheckTurns
