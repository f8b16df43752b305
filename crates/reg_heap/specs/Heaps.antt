-- A store of cells, and what changes in it.
use Rattle.std.specs.Prelude.{◌≡◌, ℕ, ◌+◌, ◌-◌, ◌<◌, cond, is_some, Option, Some, List, length, get_or, replicate}
use Rattle.reg_heap.specs.Kinds.{times}

-- what each allocated cell holds, by its offset (Suhanov, Windows registry file format specification, section "Cell")
abbrev pub Heap : Type 0
Heap = ℕ → Option (List ℕ)

-- 1 for the offset of an allocated cell, and else 0
abbrev pub allocated : Heap → ℕ → ℕ
allocated heap offset = cond (is_some (heap offset)) 1 0

-- from old to new some cells were given up and others came, counted by these functions; a cell in neither is as it was
pub record CellFrame (old new : Heap) (gone came : ℕ → ℕ) : Type 0 where
  pub count : (offset : ℕ) → allocated new offset + gone offset ≡ allocated old offset + came offset
  pub same : (offset : ℕ) → gone offset ≡ 0 → came offset ≡ 0 → new offset ≡ old offset

-- these cells may hold other bytes now, and nothing else changed
abbrev pub Writes : Heap → Heap → List ℕ → Type 0
Writes old new offsets = CellFrame old new (λ offset. times offset offsets) (λ offset. times offset offsets)

-- these cells were given up, each allocated before and named once, and nothing else changed
abbrev pub GivesUp : Heap → Heap → List ℕ → Type 0
GivesUp old new offsets = CellFrame old new (λ offset. times offset offsets) (λ offset. 0)

-- these cells are new: none was allocated before and each is named once; they have these sizes, the four bytes of the size
-- field counted, and hold zeros; and nothing else changed
pub record AreNew (old new : Heap) (offsets sizes : List ℕ) : Type 0 where
  pub as_many : length offsets ≡ length sizes
  pub come : CellFrame old new (λ offset. 0) (λ offset. times offset offsets)
  pub zeros : (index : ℕ) → index < length sizes → new (get_or offsets index 0) ≡ Some (replicate (get_or sizes index 0 - 4) 0)
