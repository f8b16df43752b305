-- Foreign bins, scanned for the first time.
use Rattle.std.specs.Prelude.{◌≡◌, ℕ, ◌+◌, ◌%◌, ◌==◌, ◌&&◌, nat_le, nat_lt, Bool, is_some, if◌then◌else◌, Some, None, Result, Ok, Err, List, [], length, ⊤}
use Rattle.reg_heap.specs.ByteWords.{word}
use Rattle.reg_arena.specs.declared.Cell.{Cell}
use Rattle.reg_arena.specs.Cells.{BinPlace, size_in, is_allocated_in, bins_of, cells_of_bins, content_in}
use Rattle.reg_tree_image.specs.declared.LoadFault.{LoadFault}
use Rattle.reg_tree_image.specs.declared.LoadFault.TheVariants.{Bins, Cells, Memory}
use Rattle.reg_tree_image.specs.declared.table.CellState.{CellState}
use Rattle.reg_tree_image.specs.declared.table.CellState.TheVariants.{Unnamed}
use Rattle.reg_tree_image.specs.declared.table.CellTable.{CellTable}
use Rattle.reg_tree_image.specs.Internal.CellStates.{state_in, IsTable}

-- a bin's header stands there, and the bin ends within the bytes
abbrev pub is_header_in : List ℕ → ℕ → Bool
is_header_in bins at =
    (word bins at == 1852400232) && (word bins (at + 4) == at) && nat_lt 0 (word bins (at + 8)) && (word bins (at + 8) % 4096 == 0)
    && nat_le (at + word bins (at + 8)) (length bins)

-- a cell's size is good, in a bin that ends at a place
abbrev pub is_size_in : ℕ → ℕ → ℕ → Bool
is_size_in size at stop = nat_lt 0 size && (size % 8 == 0) && nat_le (at + size) stop

-- the cell at a place
abbrev pub cell_there : List ℕ → ℕ → Cell
cell_there bins at = record { offset = at; size = size_in (word bins at); allocated = is_allocated_in (word bins at) }

-- the allocated ones of these cells are noted as not named yet, and the others stay
abbrev pub Marks : List ℕ → List Cell → List CellState → List CellState → Type 0
Marks bins cells old new = (offset : ℕ) → state_in new offset ≡ (if is_some (content_in bins cells offset) then Unnamed else state_in old offset)

-- headers and sizes are good, and the table has the cells, none of which was named
pub record IsScanned (bins : List ℕ) (states : List CellState) : Type 0 where
  pub places : List BinPlace
  pub cells : List Cell
  pub places_are : bins_of bins ≡ Some places
  pub cells_are : cells_of_bins bins places ≡ Some cells
  pub table : IsTable (content_in bins cells) [] [] states

-- a header is bad; all headers are good, and a size is bad; or memory lacks
abbrev pub IsNoScan : List ℕ → LoadFault → Type 0
IsNoScan bins Bins = bins_of bins ≡ None
IsNoScan bins Cells = (places : List BinPlace) × (bins_of bins ≡ Some places) × (cells_of_bins bins places ≡ None)
IsNoScan bins Memory = ⊤
IsNoScan bins fault = ⊥

abbrev pub Scans : List ℕ → Result CellTable LoadFault → Type 0
Scans bins (Ok table) = IsScanned bins table.states.items
Scans bins (Err fault) = IsNoScan bins fault
