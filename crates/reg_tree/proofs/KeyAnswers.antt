-- What is told of a key.
pub mod RefinementOfKey
pub mod AnswerBounds
pub mod RefinementOfValues
pub mod SubkeyBehind
pub mod SubkeysInTurn
pub mod ClassOfKey
pub mod LongestSubkeyName
