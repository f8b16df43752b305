-- What is tested of foreign bins before they are taken as an arena: a Bool for each part of what `IsArena` says beyond headers and sizes.
use Rattle.std.specs.Prelude.{ℕ, ◌+◌, ◌==◌, ◌&&◌, not, Bool, true, false, List, [], ◌∷◌, take, drop}
use Rattle.std.specs.List.{list_all}
use Rattle.reg_arena.specs.declared.Cell.{Cell}
use Rattle.reg_arena.specs.Cells.{Bin}

-- the last 20 bytes of the header at a place are 0
abbrev pub is_blank_at : List ℕ → ℕ → Bool
is_blank_at bytes at = list_all (λ b. b == 0) (take 20 (drop (at + 12) bytes))

-- none of these cells, one after another, is free right behind a free one; `behind` says whether the one before them is free
abbrev pub are_apart_from : Bool → List Cell → Bool
are_apart_from behind [] = true
are_apart_from behind (cell ∷ cells) = not (behind && not cell.allocated) && are_apart_from (not cell.allocated) cells

-- a bin with a header at a place, and with these cells
abbrev pub is_good_bin : List ℕ → ℕ → List Cell → Bool
is_good_bin bytes at cells = is_blank_at bytes at && are_apart_from false cells

abbrev pub are_good_bins : List ℕ → List Bin → Bool
are_good_bins bytes [] = true
are_good_bins bytes (bin ∷ bins) = is_good_bin bytes bin.start bin.cells && are_good_bins bytes bins
