-- A carve, from the free cell that is cut to the whole call.
pub mod CarveCuts
pub mod CarveFromCell
pub mod CarveWhole
pub mod CarvedCells
pub mod NewBinBytes
pub mod BinAppend
pub mod BinGrowth
pub mod FreshBins
pub mod ReservedRoom
pub mod SmallestFits
pub mod EachCarve
pub mod LargestLeft
pub mod FallingCells
pub mod GrownBins
pub mod SpareBins
pub mod KeptPages
