pub mod Internal
pub mod Locked
pub mod Sessions
pub mod Jobs
pub mod Gathering
pub mod Checkpoints
