-- Words that only private contracts and proofs use: what was read so far.
pub mod ReadSoFar
