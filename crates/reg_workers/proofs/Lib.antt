pub mod PlanLines
pub mod ReadBytes
pub mod WrittenReplies
pub mod WorkedJobs
pub mod WrittenTexts
pub mod WorkersEnd
