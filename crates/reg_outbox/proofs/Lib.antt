pub mod MovedNotices
pub mod RowsOfLimits
