-- What the walk makes of a hive that is whole: it meets no fault, names what the hive's own walk names, and tells the tree that the
-- hive spells.
pub mod CleanSteps
pub mod CleanValues
pub mod CleanKeys
pub mod CleanLists
pub mod CleanHives
pub mod CleanImages
pub mod WholeImages
