-- The definitions at images and stores of cells that were worked out by hand.
pub mod RowsOfImages
pub mod RowsOfWalks
pub mod RowsOfPaths
pub mod RowsOfListings
pub mod RowsOfKeys
pub mod RowsOfValues
pub mod RowsOfCrowds
pub mod RowsOfPlaces
