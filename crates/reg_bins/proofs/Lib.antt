pub mod BinBytes
pub mod Bins
pub mod TablePages
