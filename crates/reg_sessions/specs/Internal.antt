-- Words of private contracts.
pub mod Answered
pub mod Moved
