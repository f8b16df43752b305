pub mod Worlds
pub mod Watches
pub mod Causes
pub mod Replies
pub mod Callbacks
pub mod Histories
pub mod Calls
pub mod Internal
