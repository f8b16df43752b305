pub mod EntryTexts
pub mod Entries
pub mod Exports
pub mod Changes
pub mod ChangeExports
pub mod Internal
