-- What freeing a cell does to the cells.
use Rattle.std.specs.Prelude.{◌≡◌, ℕ, ◌+◌, ◌-◌, ◌<◌, ◌≤◌, ◌==◌, ◌⊎◌, List, [], ◌∷◌, ◌++◌, length, Some, if◌then◌else◌}
use Rattle.reg_heap.specs.declared.limits.TheConstants.{BINS_LIMIT}
use Rattle.reg_heap.specs.ByteWords.{word}
use Rattle.reg_arena.specs.declared.Cell.{Cell}
use Rattle.reg_arena.specs.Cells.{cells_of}
use Rattle.reg_arena.specs.NewCells.{used, unused}

-- at most one free cell, which is the bytes from lo to hi
abbrev pub IsFreePiece : ℕ → ℕ → List Cell → Type 0
IsFreePiece lo hi [] = lo ≡ hi
IsFreePiece lo hi (cell ∷ []) = (cell ≡ unused lo (hi - lo)) × (lo < hi)
IsFreePiece lo hi (cell ∷ (other ∷ cells)) = ⊥

-- an allocated cell and the free cells that touch it, at most one on each side, became one free cell; the other cells and what
-- they hold stayed as they were
pub record Frees (old new : List ℕ) (cell : ℕ) : Type 0 where
  pub before : List Cell
  pub left : List Cell
  pub size : ℕ
  pub right : List Cell
  pub after : List Cell
  pub lo : ℕ
  pub hi : ℕ
  pub left_is : IsFreePiece lo cell left
  pub right_is : IsFreePiece (cell + size) hi right
  pub was : cells_of old ≡ Some (before ++ ((left ++ used cell size ∷ right) ++ after))
  pub now : cells_of new ≡ Some (before ++ unused lo (hi - lo) ∷ after)
  pub long : length new ≡ length old

-- the size of the free cell that stands at a place, or 0
abbrev pub IsRight : List ℕ → ℕ → ℕ → Type 0
IsRight bytes at size =
    ((at < length bytes) × (word bytes at ≤ BINS_LIMIT) × (size ≡ word bytes at)) ⊎ ((size ≡ 0) × (at < length bytes → word bytes at ≤ BINS_LIMIT → ⊥))

-- where a cell begins once the free cell on its left, if there is one, is part of it
abbrev pub start_of : ℕ → ℕ → ℕ
start_of left cell = if left == 0 then cell else left
