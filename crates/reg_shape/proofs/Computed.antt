-- The definitions, computed at hives that were worked out by hand.
pub mod RowsOfHives
pub mod RowsOfFreshHive
pub mod RowsOfWalks
pub mod RowsOfValuedHive
