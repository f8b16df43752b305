pub mod Subkeys
pub mod Lengthening
pub mod Internal
