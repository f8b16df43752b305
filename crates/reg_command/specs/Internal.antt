-- Words that only private contracts and proofs use: what the steps of a command do.
pub mod Steps
