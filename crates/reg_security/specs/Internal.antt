-- Words that only private contracts and proofs use: the two maps behind a table.
pub mod Hashes
pub mod MapEntries
