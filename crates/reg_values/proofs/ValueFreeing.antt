-- Cells given up, one after another.
pub mod FrameChains
pub mod FreedRuns
pub mod ClearedLists
