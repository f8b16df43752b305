pub mod Copies
pub mod Internal
