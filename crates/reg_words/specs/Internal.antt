-- Words that only private contracts and proofs use: `clap`'s commands as they are put together, the table of them, and what is read of them.
pub mod Commands
pub mod CommandRows
