mod FoundLines
mod FoundKeys
mod HeldTexts
mod PatternFaults
mod RowsOfFindings
