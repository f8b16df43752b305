-- How many bytes of bins are free (Suhanov, Windows registry file format specification, "Cell").
use Rattle.std.specs.Prelude.{ℕ, ◌*◌, nat_lt, Bool, if◌then◌else◌, List, [], length, unwrap_or}
use Rattle.std.specs.List.{sum_by}
use Rattle.reg_arena.specs.declared.Cell.{Cell}
use Rattle.reg_arena.specs.Cells.{cells_of}

-- how many bytes the free ones of some cells have, their size fields too
unfoldable pub free_in : List Cell → ℕ
free_in cells = sum_by (λ (cell : Cell). if cell.allocated then 0 else cell.size) cells

-- how many bytes of bins are free cells
unfoldable pub free_size : List ℕ → ℕ
free_size bins = free_in (unwrap_or (cells_of bins) [])

-- whether more than half of the bytes of bins are free
abbrev pub are_sparse : List ℕ → Bool
are_sparse bins = nat_lt (length bins) (2 * free_size bins)
