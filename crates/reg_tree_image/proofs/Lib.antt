pub mod Computed
pub mod NamedCells
pub mod Readers
pub mod KeyStacks
pub mod Devices
pub mod CleanWalks
pub mod WalkedBack
pub mod Anew
