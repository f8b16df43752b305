pub mod ValueListing
pub mod ValueData
pub mod ValueChanges
pub mod ValueFreeing
