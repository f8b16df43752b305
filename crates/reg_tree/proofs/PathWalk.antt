-- A path walked from key to key.
pub mod PathSteps
pub mod SubkeysFound
pub mod PlacesFound
pub mod WalkPlaces
pub mod ReachedNodes
pub mod ReachedSeen
pub mod ReachedKeys
pub mod IndexPlaces
