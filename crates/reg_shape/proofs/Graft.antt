-- A key and all below it given way to others.
pub mod Branches
pub mod WholeAfterGraft
pub mod GraftPaths
pub mod ForestInsert
pub mod GraftOfExchange
pub mod ForestInsertFits
pub mod GraftInRing
