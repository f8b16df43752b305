-- Words that only private contracts and proofs use: texts by which watches are found, the rows, and what a firing does to them.
pub mod Indexes
pub mod Keys
pub mod Places
pub mod Marks
pub mod Rows
pub mod Firing
pub mod Queues
pub mod States
pub mod Hits
pub mod Settled
