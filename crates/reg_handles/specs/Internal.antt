-- Words that only private contracts and proofs use: the rows and the slab of open keys.
pub mod OpenKeySlab
pub mod OrderedRows
pub mod HandleRows
