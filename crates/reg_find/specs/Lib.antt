pub mod Findings
pub mod PatternTexts
