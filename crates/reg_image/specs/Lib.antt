pub mod Loads
pub mod Checkpoints
