-- Words of the bytes on their way to a writer, which only private contracts and proofs use.
pub mod Pieces
pub mod Sending
pub mod ChangePieces
