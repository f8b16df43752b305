-- Words that only contracts between crates and proofs use: forests, shapes, a key that gave way to another.
pub mod Forests
pub mod Shapes
pub mod Exchanges
pub mod Grafts
