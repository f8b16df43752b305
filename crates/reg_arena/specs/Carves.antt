-- What a carve does to the cells.
use Rattle.std.specs.Prelude.{◌≡◌, ℕ, zero, suc, ◌+◌, ◌-◌, ◌≤◌, ◌<◌, ◌⊎◌, false, List, [], ◌∷◌, ◌++◌, length, get_or, Option, Some, None, IsSome}
use Rattle.std.specs.List.{AllByRecursion}
use Rattle.reg_heap.specs.Heaps.{AreNew}
use Rattle.reg_arena.specs.declared.Cell.{Cell}
use Rattle.reg_arena.specs.Cells.{cells_of, cell_at}
use Rattle.reg_arena.specs.NewBin.{AppendsBin}
use Rattle.reg_arena.specs.NewCells.{unused, total_of, carved, offsets_of, zeroed}

-- the rest of a free cell, if there is one
abbrev pub rest_of : ℕ → ℕ → List Cell
rest_of offset zero = []
rest_of offset (suc size) = unused offset (suc size) ∷ []

-- the first, or where it is None the other
abbrev pub or_else : {A : Type 0} → Option A → Option A → Option A
or_else None other = other
or_else (Some x) other = Some x

-- a byte stands in no free cell
abbrev pub IsInNoFree : ℕ → List Cell → Type 0
IsInNoFree k cells = AllByRecursion (λ cell. cell.allocated ≡ false → (k < cell.offset) ⊎ (cell.offset + cell.size ≤ k)) cells

-- a free cell that fits gives way to the cells asked for, in order, and its rest; the other cells stay as they were, and
-- so does each byte that was in no free cell
pub record Carves (old new : List ℕ) (sizes : List ℕ) (offsets : List ℕ) : Type 0 where
  pub before : List Cell
  pub at : ℕ
  pub size : ℕ
  pub after : List Cell
  pub fits : total_of sizes ≤ size
  pub was : cells_of old ≡ Some (before ++ unused at size ∷ after)
  pub now : cells_of new ≡ Some (before ++ ((carved at sizes ++ rest_of (at + total_of sizes) (size - total_of sizes)) ++ after))
  pub offsets_are : offsets ≡ offsets_of at sizes
  pub contents : (offset : ℕ) → cell_at new offset ≡ or_else (zeroed at sizes offset) (cell_at old offset)
  pub fresh : (offset : ℕ) → IsSome (zeroed at sizes offset) → cell_at old offset ≡ None
  pub long : length new ≡ length old
  pub kept : (k : ℕ) → IsInNoFree k (before ++ unused at size ∷ after) → get_or new k 0 ≡ get_or old k 0

-- no free cell has this many bytes
abbrev pub NoFit : List ℕ → ℕ → Type 0
NoFit bytes total = (cells : List Cell) → cells_of bytes ≡ Some cells → AllByRecursion (λ cell. cell.allocated ≡ false → cell.size < total) cells

-- the bytes that cells are cut from: those there were or, only where no free cell of theirs fits, those with a new bin
abbrev pub IsRoom : List ℕ → List ℕ → ℕ → Type 0
IsRoom old mid total = (mid ≡ old) ⊎ (NoFit old total × AppendsBin old mid total)

-- no free cell that fits and has fewer than 16,384 bytes is smaller than this size
abbrev pub IsSmallestFit : List ℕ → ℕ → ℕ → Type 0
IsSmallestFit bytes total size = (cells : List Cell) → cells_of bytes ≡ Some cells →
    AllByRecursion (λ cell. cell.allocated ≡ false → total ≤ cell.size → cell.size < 16384 → size ≤ cell.size) cells

-- the exact rule of a carve: cells are cut from one free cell, a smallest that fits where some that fit have fewer than 16,384
-- bytes, and of a new bin only where none fits
pub record CarvesExactly (old new : List ℕ) (sizes : List ℕ) (offsets : List ℕ) : Type 0 where
  pub mid : List ℕ
  pub room : IsRoom old mid (total_of sizes)
  pub carves : Carves mid new sizes offsets
  pub smallest : IsSmallestFit mid (total_of sizes) carves.size

-- a carve as callers see it: cells that were not there before hold zeros, and all others hold what they held
pub record AddsCells (old new : List ℕ) (sizes : List ℕ) (offsets : List ℕ) : Type 0 where
  pub at : ℕ
  pub offsets_are : offsets ≡ offsets_of at sizes
  pub contents : (offset : ℕ) → cell_at new offset ≡ or_else (zeroed at sizes offset) (cell_at old offset)
  pub fresh : (offset : ℕ) → IsSome (zeroed at sizes offset) → cell_at old offset ≡ None
  pub are_new : AreNew (cell_at old) (cell_at new) offsets sizes
