-- Bins that are taken as they stand, while their free cells come into the lists, one after the other.
use Rattle.std.specs.Prelude.{◌≡◌, ℕ, ◌+◌, List, [], ◌∷◌, ◌++◌, length}
use Rattle.reg_arena.specs.declared.Cell.{Cell}
use Rattle.reg_arena.specs.declared.free_lists.FreeLists.{FreeLists}
use Rattle.reg_arena.specs.Arena.{AreBlank}
use Rattle.reg_arena.specs.Cells.{Bin, AreBins, cells_in, content_in}
use Rattle.reg_arena.specs.Internal.ListedCells.{free_size, IsListed}

-- cells that fill the bytes from a place to another
abbrev pub Fill : ℕ → ℕ → List Cell → Type 0
Fill at stop [] = at ≡ stop
Fill at stop (cell ∷ cells) = (cell.offset ≡ at) × Fill (at + cell.size) stop cells

-- the bins as they were, but for links in free cells; those of the front of the cells are in the lists
pub record AreTaken (old new : List ℕ) (layout : List Bin) (front rest : List Cell) (lists : FreeLists) : Type 0 where
  pub split : cells_in layout ≡ front ++ rest
  pub long : length new ≡ length old
  pub tiled : AreBins new 0 layout
  pub blank : AreBlank old layout → AreBlank new layout
  pub contents : (offset : ℕ) → content_in new (cells_in layout) offset ≡ content_in old (cells_in layout) offset
  pub listed : IsListed new (free_size front) lists

-- some bins are being taken, and next come cells that fill the bytes from a place to another
pub record IsTaking (new : List ℕ) (at stop : ℕ) (lists : FreeLists) : Type 0 where
  pub old : List ℕ
  pub layout : List Bin
  pub front : List Cell
  pub cells : List Cell
  pub after : List Cell
  pub taken : AreTaken old new layout front (cells ++ after) lists
  pub fill : Fill at stop cells

-- what was taken, with the cells that fill the bytes from a place to another behind it
abbrev pub Takes : List ℕ → FreeLists → List ℕ → FreeLists → ℕ → ℕ → Type 0
Takes bytes lists bytes' lists' at stop =
    (old : List ℕ) → (layout : List Bin) → (front cells after : List Cell) → AreTaken old bytes layout front (cells ++ after) lists → Fill at stop cells →
    AreTaken old bytes' layout (front ++ cells) after lists'
