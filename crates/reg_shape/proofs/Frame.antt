-- What a change elsewhere leaves as it was.
pub mod ReadingFrame
pub mod KeyFrame
pub mod WrittenFrame
