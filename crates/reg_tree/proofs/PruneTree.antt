-- A tree deleted.
pub mod PlaceAbove
pub mod ChildPlaces
pub mod TopKeys
pub mod PathOrder
pub mod NextKeys
pub mod PathsWithin
pub mod MarkedKeys
pub mod TreesWithout
pub mod ThinnedTrees
pub mod PrunedTrees
pub mod DroppedValues
pub mod KeysUnder
pub mod PruneObligations
pub mod PruneSeen
