pub mod Imports
pub mod ImportCalls
pub mod ImportStops
pub mod Internal
