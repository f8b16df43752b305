pub mod Readings
pub mod PathLookup
pub mod Internal
pub mod Walk
pub mod Nodes
pub mod Spelt
pub mod Written
pub mod Whole
