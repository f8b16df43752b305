pub mod DumpTexts
pub mod DumpFronts
pub mod DumpCounts
pub mod Listings
pub mod ValueTexts
pub mod PathQueries
pub mod PathBlames
pub mod Internal
