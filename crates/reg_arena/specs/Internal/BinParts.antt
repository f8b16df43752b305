-- What ties the vectors in which the bins stand to their headers.
use Rattle.std.specs.Prelude.{◌≡◌, ℕ, ◌+◌, List, [], ◌∷◌, map, flat_map, Some}
use Rattle.reg_arena.specs.Cells.{BinPlace, bins_of}

-- the bytes of some bins
abbrev pub sum_of : List BinPlace → ℕ
sum_of [] = 0
sum_of (bin ∷ bins) = bin.size + sum_of bins

-- each vector has bins, one behind the other, and all of each: one where the bin was appended, several where they were taken as they stand
unfoldable pub IsSplit : List ℕ → List ℕ → Type 0
IsSplit bytes parts = (held : List (List BinPlace)) × (bins_of bytes ≡ Some (flat_map (λ bins. bins) held)) × (map sum_of held ≡ parts)
