pub mod JournalGrowth
pub mod AcceptedCalls
pub mod HandleInvariant
pub mod LegalJournals
pub mod CallSteps
pub mod RowsReplies
pub mod RowsRefusals
pub mod RowsKeys
pub mod RowsInfos
pub mod RowsSecurity
pub mod RowsDeleteTree
mod RowsAfterDeleteTree
mod RowsOfConstants
pub mod TreesOfChanges
pub mod TreesOfJournals
pub mod HandlesUntilClosed
pub mod FewEvents
pub mod PendingWatches
pub mod ToldOnce
pub mod RowsNotify
pub mod LongerTexts
