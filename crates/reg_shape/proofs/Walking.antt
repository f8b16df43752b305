-- What the walk meets is what the readings meet.
pub mod ReadingParts
pub mod WalkParts
pub mod WalkFuel
pub mod ReadingWalks
pub mod IndexWalks
pub mod WalkRefinement
pub mod InnerReadings
