pub mod ReadKeys
pub mod SecurityRings
pub mod Internal
