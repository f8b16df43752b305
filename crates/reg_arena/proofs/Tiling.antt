-- How cells tile the bins, and what that says to the crates above.
pub mod Tilings
pub mod BinPlaces
pub mod CellPositions
pub mod BlankHeaders
pub mod EmptyArena
pub mod ArenaInvariant
pub mod CellWalkSteps
pub mod ArenaFaults
pub mod CellLayout
pub mod BinPieces
pub mod BinParts
pub mod BinStretches
