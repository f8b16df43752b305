-- Bytes of one bin at hand, in which cells are read without a look-up of the bin.
use Rattle.std.specs.Prelude.{◌≡◌, ℕ, ◌+◌, ◌-◌, ◌≤◌, ◌<◌, List, length, take, drop, Some, IsSome}
use Rattle.reg_heap.specs.ByteWords.{word}
use Rattle.reg_heap.specs.Heaps.{Heap}
use Rattle.reg_arena.specs.Cells.{size_in}

-- the bytes begin with an allocated cell's size field, and have all of the cell
pub record BeginsWithCell (heap : Heap) (cell : ℕ) (bytes : List ℕ) : Type 0 where
  pub eight : 8 ≤ size_in (word bytes 0)
  pub within : size_in (word bytes 0) ≤ length bytes
  pub content : heap cell ≡ Some (take (size_in (word bytes 0) - 4) (drop 4 bytes))

-- bytes from an offset on: each allocated cell that begins among them lies there whole
unfoldable pub IsStretch : Heap → ℕ → List ℕ → Type 0
IsStretch heap from bytes = (cell : ℕ) → IsSome (heap cell) → from ≤ cell → cell < from + length bytes → BeginsWithCell heap cell (drop (cell - from) bytes)
