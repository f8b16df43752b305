-- A list of values: taken apart, put together, looked up.
pub mod ValueListOpening
pub mod ToldValues
pub mod FoundValues
pub mod ValueListFrame
pub mod NamedValues
pub mod LargestLengths
