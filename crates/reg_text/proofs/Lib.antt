pub mod AppendedBytes
pub mod EscapedBytes
pub mod FailureCounts
pub mod TextPieces
