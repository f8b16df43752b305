pub mod ScriptRuns
pub mod ImageRuns
pub mod Failures
pub mod Internal
