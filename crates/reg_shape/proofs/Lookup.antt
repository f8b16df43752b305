-- Where a path leads, by the cells alone.
pub mod LookupOfShape
pub mod LookupAfterGraft
