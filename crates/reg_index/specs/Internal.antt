-- Words that only private contracts and proofs use: a hash leaf and its entries, the lists of an index, and searches.
pub mod HashLeaves
pub mod IndexLists
pub mod NameSearches
