-- Memory for bins to come, one for each cell that is to be carved.
use Rattle.std.specs.Prelude.{◌≡◌, ◌<◌, ◌≤◌, ℕ, List, [], ◌∷◌, length, get_or, MatchOption, vec_capacity, ⊤}
use Rattle.std.specs.List.{AllByRecursion}
use Rattle.reg_arena.specs.declared.each.Spare.{Spare}
use Rattle.reg_arena.specs.Internal.Reserved.{IsRoomFor}

-- there is memory for a bin for each of these sizes whose place is marked as not carved yet
abbrev pub AreSpare : ℕ → List ℕ → List ℕ → List Spare → Type 0
AreSpare none [] [] [] = ⊤
AreSpare none (size ∷ sizes) (offset ∷ offsets) (spare ∷ spares) =
    (offset ≡ none → MatchOption spare.memory ⊥ (λ memory. IsRoomFor memory.items (vec_capacity memory) size)) × AreSpare none sizes offsets spares
AreSpare none sizes offsets spares = ⊥

-- at this place there is memory for a bin for a cell of this size
pub record HasSpare (spares : List Spare) (place size : ℕ) : Type 0 where
  pub there : place < length spares
  pub room : (other : Spare) → MatchOption (get_or spares place other).memory ⊥ (λ memory. IsRoomFor memory.items (vec_capacity memory) size)

-- memory for a bin of one page, 4,096 bytes
abbrev pub IsPage : Spare → Type 0
IsPage spare = MatchOption spare.memory ⊥ (λ memory. vec_capacity memory ≡ 4096)

-- memory that is kept from call to call: for at most 16 such bins
unfoldable pub ArePages : List Spare → Type 0
ArePages kept = (length kept ≤ 16) × AllByRecursion IsPage kept
