pub mod LoadedHives
pub mod CheckpointFaults
