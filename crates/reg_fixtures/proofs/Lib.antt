pub mod LiveCellLemmas
