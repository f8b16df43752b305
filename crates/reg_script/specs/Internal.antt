-- Words that only private contracts and proofs use: how far a script has come, and what became of its replies.
pub mod Outputs
pub mod WordReadings
pub mod Verbs
pub mod Progress
pub mod StrictEnds
