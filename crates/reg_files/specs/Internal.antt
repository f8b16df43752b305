-- Words that only private contracts and proofs use: which ends of a command are a failed write, which fault tells what ended a call, what is
-- read ahead, and what a status says.
pub mod Cuts
pub mod Faults
pub mod Counted
pub mod Fronts
pub mod Outcomes
