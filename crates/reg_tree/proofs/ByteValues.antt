-- That the values of a tree hold bytes, since its bins are bytes.
pub mod BytePieces
pub mod ReadBytes
pub mod SpeltBytes
pub mod SeenPages
