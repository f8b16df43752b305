-- Cells, as the records in them are read and written.
use Rattle.std.specs.Prelude.{◌≡◌, ◌≢◌, ℕ, ◌≤◌, List, [], ◌∷◌, ◌++◌, length, drop, Option, Some, IsSome, unwrap_or, Result}
use Rattle.std.specs.Option.{option_and_then}
use Rattle.std.specs.Result.{result_ok}
use Rattle.reg_heap.specs.ByteWords.{splice}
use Rattle.reg_heap.specs.Heaps.{Writes}
use Rattle.reg_arena.specs.Arena.{Bins, heap_of}
use Rattle.reg_arena.specs.Cells.{cells_of}

-- what the allocated cell at each offset holds
abbrev pub Heap : Type 0
Heap = ℕ → Option (List ℕ)

-- what the cell at an offset holds: nothing where there is no cell
abbrev pub held : Heap → ℕ → List ℕ
held heap cell = unwrap_or (heap cell) []

-- what the cell at an offset reads as, by a reading of contents: None where there is no cell, or a fault
abbrev pub read_at : {R F : Type 0} → (List ℕ → Result R F) → Heap → ℕ → Option R
read_at reading heap cell = option_and_then (λ content. result_ok (reading content)) (heap cell)

-- there is a cell that holds at least that many bytes
pub record HasRoom (heap : Heap) (cell size : ℕ) : Type 0 where
  pub exists : IsSome (heap cell)
  pub enough : size ≤ length (held heap cell)

-- the cell holds other bytes now, as many as before, and nothing else changed; the bins are as long as they were
pub record WritesCell (old new : Bins) (cell : ℕ) (content : List ℕ) : Type 0 where
  pub here : heap_of new cell ≡ Some content
  pub as_many : length content ≡ length (held (heap_of old) cell)
  pub others : (offset : ℕ) → offset ≢ cell → heap_of new offset ≡ heap_of old offset
  pub cells : cells_of new.bytes ≡ cells_of old.bytes
  pub heads : new.heads ≡ old.heads
  pub writes : Writes (heap_of old) (heap_of new) (cell ∷ [])
  pub long : length new.bytes ≡ length old.bytes

-- the cell begins with these bytes, a record of that size, and what followed them stays
abbrev pub WritesRecord : Bins → Bins → ℕ → ℕ → List ℕ → Type 0
WritesRecord old new cell size bytes = WritesCell old new cell (bytes ++ drop size (held (heap_of old) cell))

-- these bytes stand at an offset of what the cell holds, and the others there stay
abbrev pub WritesPart : Bins → Bins → ℕ → ℕ → List ℕ → Type 0
WritesPart old new cell at bytes = WritesCell old new cell (splice at bytes (held (heap_of old) cell))

-- whatever the cell read as before, it reads as that with a change now
abbrev pub Rereads : {R : Type 0} → (Heap → ℕ → Option R) → Bins → Bins → ℕ → (R → R) → Type 0
Rereads {R = R} reading old new cell change =
    (r : R) → reading (heap_of old) cell ≡ Some r → reading (heap_of new) cell ≡ Some (change r)
