-- A value added, set again or removed, and all values made at once.
pub mod PlannedSizes
pub mod KeptSizes
pub mod OffsetRemoved
pub mod ValueRemoved
pub mod ValueListGrown
pub mod UnusedOffsets
pub mod ValueAdded
pub mod ValueReplaced
pub mod ValueSetAgain
pub mod ValuesPlanned
pub mod ValuesFilled
pub mod ValuesMade
pub mod ValuesExtended
