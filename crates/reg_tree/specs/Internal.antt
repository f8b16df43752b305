-- Words that only private contracts and proofs use: what each step of a change does to the cells.
pub mod FreshCells
pub mod KeyNodeChanges
pub mod TreeFaults
pub mod PathWalks
pub mod ReachedPlaces
pub mod KeyDeletion
pub mod KeyOrder
pub mod TreeDeletion
pub mod SpareCells
pub mod KeyCreation
pub mod TreeInvariant
pub mod LengthChanges
pub mod DescriptorChange
pub mod KeyBuilding
pub mod NamesSeen
pub mod ListLengthening
