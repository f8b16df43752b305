-- Cells of a bin that are still to be counted.
use Rattle.std.specs.Prelude.{ℕ, ◌-◌, List}
use Rattle.reg_arena.specs.declared.Cell.{Cell}
use Rattle.reg_arena.specs.Cells.{IsInBin, Tiles}

-- cells of one bin fill the bytes from at to stop
pub record AreCellsOfBin (bins : List ℕ) (at stop : ℕ) : Type 0 where
  pub cells : List Cell
  pub tiles : Tiles bins at stop cells
  pub in_bin : IsInBin bins at (stop - at)
