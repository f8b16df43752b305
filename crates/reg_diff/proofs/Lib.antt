pub mod ToldKeys
pub mod SameValues
pub mod SameTrees
pub mod EqualTrees
pub mod ReadValues
pub mod ToldPaths
pub mod BranchNames
pub mod BranchLaw
pub mod KeysFound
pub mod ChangeLines
pub mod ValueLines
pub mod ChangeSteps
pub mod SideSteps
mod RowsOfDifferences
pub mod NamedPlaces
