-- Room in the bins for cells that are to come (Suhanov, Windows registry file format specification, "Hive bin", "Cell").
use Rattle.std.specs.Prelude.{◌≡◌, ◌≤◌, ℕ, false, List, [], ◌∷◌, length, Some, Contains}
use Rattle.reg_arena.specs.declared.Cell.{Cell}
use Rattle.reg_arena.specs.Arena.{heap_of}
use Rattle.reg_arena.specs.Cells.{cells_of}
use Rattle.reg_tree.specs.TreeKeys.{Keys}
use Rattle.reg_tree.specs.BuiltKeys.{Grows}

-- some free cell of the bins has so many bytes
pub record HasFit (bytes : List ℕ) (size : ℕ) : Type 0 where
  pub cells : List Cell
  pub cells_are : cells_of bytes ≡ Some cells
  pub cell : Cell
  pub among : Contains cells cell
  pub free : cell.allocated ≡ false
  pub fits : size ≤ cell.size

-- now some free cell has so many bytes, and where none had them, a bin came; the keys and their cells are as they were
pub record MakesRoom (old new : Keys) (size : ℕ) : Type 0 where
  pub cells : heap_of new.bins ≡ heap_of old.bins
  pub root : new.root ≡ old.root
  pub tree : new.tree ≡ old.tree
  pub fits : HasFit new.bins.bytes size
  pub growth : Grows old.bins new.bins (size ∷ [])
  pub kept : length old.bins.bytes ≤ length new.bins.bytes
