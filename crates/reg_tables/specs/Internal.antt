-- Words of what is written on its way, which only private contracts and proofs use.
pub mod Entries
pub mod Layouts
