-- Words that only private contracts and proofs use: where an import stands between its entries.
pub mod Standing
