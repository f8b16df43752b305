-- Rows of offsets (Suhanov, Windows registry file format specification, "Key values list", "Big data").
use Rattle.std.specs.Prelude.{ℕ, zero, suc, ◌+◌, ◌*◌, nat_le, if◌then◌else◌, Option, Some, None, List, [], ◌∷◌, length}
use Rattle.reg_heap.specs.ByteWords.{word}

-- the offset at an index of a row
unfoldable pub offset_in : List ℕ → ℕ → ℕ
offset_in row index = word row (4 * index)

-- so many offsets of 4 bytes each, from an offset on
unfoldable pub offsets_at : ℕ → ℕ → List ℕ → List ℕ
offsets_at zero at content = []
offsets_at (suc count) at content = word content at ∷ offsets_at count (at + 4) content

-- the first offsets of a row, where it has so many
unfoldable pub row_in : ℕ → List ℕ → Option (List ℕ)
row_in count content = if nat_le (4 * count) (length content) then Some (offsets_at count 0 content) else None
