-- Free bytes counted, and a tree built anew.
pub mod FreeSums
pub mod RebuiltTrees
