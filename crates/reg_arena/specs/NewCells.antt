-- New cells, side by side.
use Rattle.std.specs.Prelude.{◌≡◌, ℕ, ◌+◌, ◌-◌, ◌*◌, ◌/◌, ◌<◌, ◌%◌, true, false, List, [], ◌∷◌, Option, Some, None, if◌then◌else◌, ◌==◌, replicate}
use Rattle.std.specs.List.{AllByRecursion}
use Rattle.reg_arena.specs.declared.Cell.{Cell}

-- the size of the cell for so many bytes: the size field's 4 more, rounded up to a multiple of 8 (Suhanov, Windows registry file
-- format specification, section "Cell")
abbrev pub cell_size : ℕ → ℕ
cell_size bytes = (bytes + 11) / 8 * 8

-- all sizes together
abbrev pub total_of : List ℕ → ℕ
total_of [] = 0
total_of (size ∷ sizes) = size + total_of sizes

-- sizes that cells may have (Suhanov, Windows registry file format specification, section "Cell")
abbrev pub AreSizes : List ℕ → Type 0
AreSizes sizes = AllByRecursion (λ size. (0 < size) × (size % 8 ≡ 0)) sizes

-- an allocated cell
abbrev pub used : ℕ → ℕ → Cell
used offset size = record { offset = offset; size = size; allocated = true }

-- a free cell
abbrev pub unused : ℕ → ℕ → Cell
unused offset size = record { offset = offset; size = size; allocated = false }

-- allocated cells of these sizes from an offset on
abbrev pub carved : ℕ → List ℕ → List Cell
carved at [] = []
carved at (size ∷ sizes) = used at size ∷ carved (at + size) sizes

-- the offsets of such cells
abbrev pub offsets_of : ℕ → List ℕ → List ℕ
offsets_of at [] = []
offsets_of at (size ∷ sizes) = at ∷ offsets_of (at + size) sizes

-- what such cells hold when they are new: zeros
abbrev pub zeroed : ℕ → List ℕ → ℕ → Option (List ℕ)
zeroed at [] offset = None
zeroed at (size ∷ sizes) offset = if at == offset then Some (replicate (size - 4) 0) else zeroed (at + size) sizes offset
