pub mod Rings
pub mod Internal
