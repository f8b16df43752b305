-- The tree that is spelt, and what it is after a change.
pub mod SpeltShapes
pub mod SpeltTrees
pub mod SiblingNames
pub mod RefinementAfterEdit
pub mod RefinementAtPath
pub mod RefinementAfterGraft
pub mod RefinementOfChildren
