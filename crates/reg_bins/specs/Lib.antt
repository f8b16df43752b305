pub mod Rows
pub mod Internal
