pub mod Tasks
pub mod Texts
pub mod Workers
pub mod Internal
