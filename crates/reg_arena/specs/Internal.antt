-- Words that only private contracts and proofs use: the free lists' tables, and a walk over the cells under way.
pub mod BinParts
pub mod CellThreads
pub mod CellWalks
pub mod ListedCells
pub mod TakenBins
pub mod SizeTables
pub mod Reserved
pub mod Spares
