-- A walk over the cells.
use Rattle.std.specs.Prelude.{◌≡◌, ℕ, List, ◌++◌}
use Rattle.reg_arena.specs.declared.Cell.{Cell}
use Rattle.reg_arena.specs.Cells.{Tiles, Bin, AreBins}

-- cells fill the bytes from at to stop
pub record IsTiled (bins : List ℕ) (at stop : ℕ) : Type 0 where
  pub cells : List Cell
  pub tiles : Tiles bins at stop cells

-- bins fill the bytes
pub record IsRowOfBins (bins : List ℕ) : Type 0 where
  pub layout : List Bin
  pub tiled : AreBins bins 0 layout

-- the cells that fill the bytes from at to stop were put behind those that there were
pub record PushesCells (bins : List ℕ) (at stop : ℕ) (old new : List Cell) : Type 0 where
  pub cells : List Cell
  pub tiles : Tiles bins at stop cells
  pub items : new ≡ old ++ cells
