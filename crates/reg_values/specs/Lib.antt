pub mod Internal
pub mod ValueSizes
pub mod ValueLists
pub mod NewValues
