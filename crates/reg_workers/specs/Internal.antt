-- Words that only private contracts and proofs use.
pub mod Parts
pub mod Plans
pub mod Readings
pub mod Working
