-- Cells carved one after the other, each by itself.
use Rattle.std.specs.Prelude.{◌≡◌, ℕ, ◌+◌, ◌*◌, ◌/◌, ◌≤◌, ◌<◌, ◌⊎◌, if◌then◌else◌, nat_lt, List, [], ◌∷◌, length, get_or, map}
use Rattle.std.specs.List.{AllByRecursion}
use Rattle.reg_heap.specs.Kinds.{times}
use Rattle.reg_heap.specs.declared.limits.TheConstants.{BINS_LIMIT, GROWTH_BOUND}
use Rattle.reg_arena.specs.declared.TheConstants.{CARVE_LIMIT}
use Rattle.reg_arena.specs.Carves.{CarvesExactly, NoFit}
use Rattle.reg_arena.specs.NewCells.{total_of}

-- the size of the least bin for one cell: its header's 32 bytes and the cell, rounded up to a multiple of 4096
-- (Suhanov, Windows registry file format specification, section "Hive bin")
abbrev pub fresh_bin : ℕ → ℕ
fresh_bin size = (32 + size + 4095) / 4096 * 4096

-- the bytes of such bins for cells of these sizes, one for each
abbrev pub fresh_of : List ℕ → ℕ
fresh_of [] = 0
fresh_of (size ∷ sizes) = fresh_bin size + fresh_of sizes

-- each size is one that a carve may be asked for
abbrev pub AreCarvable : List ℕ → Type 0
AreCarvable sizes = AllByRecursion (λ size. size ≤ CARVE_LIMIT) sizes

-- each cell in turn by a carve of its size alone: so a bin is appended for it only where no free cell fits it by itself
abbrev pub EachExactly : List ℕ → List ℕ → List ℕ → List ℕ → Type 0
EachExactly old new [] [] = new ≡ old
EachExactly old new (size ∷ sizes) (offset ∷ offsets) =
    (mid : List ℕ) × CarvesExactly old mid (size ∷ []) (offset ∷ []) × EachExactly mid new sizes offsets
EachExactly old new sizes offsets = ⊥

-- of two places of the sizes this one comes first: its size is larger, or they are equal and it stands before the other
abbrev pub IsCarvedBefore : List ℕ → ℕ → ℕ → Type 0
IsCarvedBefore sizes place later =
    (get_or sizes later 0 < get_or sizes place 0) ⊎ ((get_or sizes later 0 ≡ get_or sizes place 0) × (place < later))

-- each of these places comes before all that follow it
abbrev pub AreFalling : List ℕ → List ℕ → Type 0
AreFalling sizes [] = Unit {0}
AreFalling sizes (place ∷ turn) = AllByRecursion (IsCarvedBefore sizes place) turn × AreFalling sizes turn

-- what a list has at these places
abbrev pub at_places : List ℕ → List ℕ → List ℕ
at_places numbers places = map (λ place. get_or numbers place 0) places

-- each cell by itself, the largest first and of equal ones the first: `turn` names each place of the sizes once, in the order in
-- which their cells are carved; the offsets are in the order of the sizes
pub record EachFalling (old new sizes offsets : List ℕ) : Type 0 where
  pub turn : List ℕ
  pub each_once : (place : ℕ) → times place turn ≡ (if nat_lt place (length sizes) then 1 else 0)
  pub falls : AreFalling sizes turn
  pub as_many : length offsets ≡ length sizes
  pub carves : EachExactly old new (at_places sizes turn) (at_places offsets turn)

-- a bin for each cell is within what one change may add, and within the limit of all bins
abbrev pub HasRoomForEach : List ℕ → List ℕ → Type 0
HasRoomForEach bytes sizes = (fresh_of sizes ≤ GROWTH_BOUND) × (length bytes + fresh_of sizes ≤ BINS_LIMIT)

-- the cells of one change: each by itself, the largest first, where a bin for each has room, else side by side
pub record CarvesChange (old new sizes offsets : List ℕ) : Type 0 where
  pub apart : HasRoomForEach old sizes → EachFalling old new sizes offsets
  pub together : (HasRoomForEach old sizes → ⊥) → CarvesExactly old new sizes offsets

-- how the bins grew for cells of these sizes: not at all; or, only where no free cell had room for all of them side by side, by no more
-- than the least bins for each
abbrev pub GrowsFor : List ℕ → List ℕ → List ℕ → Type 0
GrowsFor old new sizes = (length new ≡ length old) ⊎ (NoFit old (total_of sizes) × (length new ≤ length old + fresh_of sizes))
