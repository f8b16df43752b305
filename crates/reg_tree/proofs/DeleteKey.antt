-- A key deleted.
pub mod SubkeyUnlinked
pub mod DeletedKeyCells
pub mod DeletedKeyPosition
pub mod DeletedKeyParent
pub mod DeleteKeyFaults
pub mod KeyAbove
pub mod SecurityReleased
pub mod DeleteKeyFrame
pub mod DeleteKeyGraft
pub mod DeleteKeyObligations
pub mod DeleteKeepsNodes
pub mod DeleteReached
