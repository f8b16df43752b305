-- Words that only private contracts, contracts between the crates and proofs use.
pub mod TextNumbers
