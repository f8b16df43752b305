-- Words that only private contracts and proofs use.
pub mod Copying
