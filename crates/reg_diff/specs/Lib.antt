pub mod Branches
pub mod Differences
pub mod Alike
pub mod Internal
