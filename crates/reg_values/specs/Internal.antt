-- Words that only private contracts and proofs use: the parts of a list of values.
pub mod ValueListParts
