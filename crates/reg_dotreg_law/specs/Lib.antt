pub mod EntriesDue
pub mod MadeAgain
pub mod ReadBack
pub mod MadeOfFiles
pub mod ChangesDue
