-- Words of what is told on its way to a writer and of the walk over the keys, which other texts of a tree use, too; and of the lines of
-- a dump, which only private contracts and proofs use.
pub mod Gathered
pub mod LineParts
pub mod Walking
