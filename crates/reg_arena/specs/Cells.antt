-- The cells of the bins.
-- Suhanov, Windows registry file format specification, sections "Hive bin" and "Cell".
use Rattle.std.specs.Prelude.{◌≡◌, ℕ, zero, suc, ◌+◌, ◌-◌, ◌<◌, ◌≤◌, ◌%◌, Bool, true, false, ◌&&◌, if◌then◌else◌, nat_lt, nat_le, ◌==◌, List, [], ◌∷◌}
use Rattle.std.specs.Prelude.{◌++◌, length, take, drop, Option, Some, None, option_map, flat_map, Contains}
use Rattle.std.specs.Option.{option_and_then}
use Rattle.reg_heap.specs.ByteWords.{word}
use Rattle.reg_arena.specs.declared.Cell.{Cell}

-- a bin with its cells
pub record Bin : Type 0 where
  pub start : ℕ
  pub size : ℕ
  pub cells : List Cell

-- the size that a size field gives (section "Cell"): an allocated cell's is negative
abbrev pub size_in : ℕ → ℕ
size_in field = if nat_lt field 2147483648 then field else 4294967296 - field

-- whether a size field is negative, as an allocated cell's is (section "Cell")
abbrev pub is_allocated_in : ℕ → Bool
is_allocated_in field = nat_le 2147483648 field

-- a cell stands there and ends by stop; its size is a multiple of 8 and not 0 (section "Cell")
pub record IsCell (bins : List ℕ) (stop : ℕ) (cell : Cell) : Type 0 where
  pub size : size_in (word bins cell.offset) ≡ cell.size
  pub allocated : is_allocated_in (word bins cell.offset) ≡ cell.allocated
  pub positive : 0 < cell.size
  pub eights : cell.size % 8 ≡ 0
  pub within : cell.offset + cell.size ≤ stop

-- the cells fill the bytes from at to stop
abbrev pub Tiles : List ℕ → ℕ → ℕ → List Cell → Type 0
Tiles bins at stop [] = at ≡ stop
Tiles bins at stop (cell ∷ cells) =
    (cell.offset ≡ at) × IsCell bins stop cell × Tiles bins (at + cell.size) stop cells

-- a bin's header stands there (section "Hive bin"): `hbin`, the bin's offset, its size, a multiple of 4096 and not 0
pub record IsHeader (bins : List ℕ) (bin : Bin) : Type 0 where
  pub signature : word bins bin.start ≡ 1852400232
  pub place : word bins (bin.start + 4) ≡ bin.start
  pub size : word bins (bin.start + 8) ≡ bin.size
  pub positive : 0 < bin.size
  pub pages : bin.size % 4096 ≡ 0
  pub within : bin.start + bin.size ≤ length bins

-- these are the bins, from at on: a header of 32 bytes and cells, which fill the bin (section "Hive bin")
abbrev pub AreBins : List ℕ → ℕ → List Bin → Type 0
AreBins bins at [] = at ≡ length bins
AreBins bins at (bin ∷ rest) =
    (bin.start ≡ at) × IsHeader bins bin × Tiles bins (at + 32) (at + bin.size) bin.cells
    × AreBins bins (at + bin.size) rest

-- so many bytes from an offset on lie in one bin
pub record IsInBin (bytes : List ℕ) (at len : ℕ) : Type 0 where
  pub bins : List Bin
  pub bins_are : AreBins bytes 0 bins
  pub bin : Bin
  pub among : Contains bins bin
  pub from : bin.start ≤ at
  pub to : at + len ≤ bin.start + bin.size

-- the cells of some bins, in order
abbrev pub cells_in : List Bin → List Cell
cells_in bs = flat_map (λ (b : Bin). b.cells) bs

-- one of two, of which only the one chosen is computed
abbrev pub choose : {A : Type 0} → Bool → (Unit {0} → A) → (Unit {0} → A) → A
choose true this other = this tt
choose false this other = other tt

-- the cells met by stepping, from at to stop; `steps` bounds them
abbrev pub cells_from : ℕ → List ℕ → ℕ → ℕ → Option (List Cell)
cells_from zero bins at stop = None
cells_from (suc steps) bins at stop =
    choose (at == stop) (λ _. Some []) (λ _.
    let size = size_in (word bins at) in
    choose (nat_lt 0 size && (size % 8 == 0) && nat_le (at + size) stop)
    (λ _. option_map (λ (cells : List Cell). record {
      offset = at;
      size = size;
      allocated =
          is_allocated_in (word bins at);
    } ∷ cells) (cells_from steps bins (at + size) stop))
    (λ _. None))

-- both lists, where both are there
abbrev pub joined : Option (List Cell) → Option (List Cell) → Option (List Cell)
joined None ys = None
joined (Some xs) None = None
joined (Some xs) (Some ys) = Some (xs ++ ys)

-- where a bin begins and how many bytes it has, as its header says
pub record BinPlace : Type 0 where
  pub start : ℕ
  pub size : ℕ

-- the bins from at on, by their headers alone; `steps` bounds them
abbrev pub bins_from : ℕ → List ℕ → ℕ → Option (List BinPlace)
bins_from zero bins at = None
bins_from (suc steps) bins at =
    choose (at == length bins) (λ _. Some []) (λ _.
    let size = word bins (at + 8) in
    choose ((word bins at == 1852400232) && (word bins (at + 4) == at) && nat_lt 0 size && (size % 4096 == 0) && nat_le (at + size) (length bins))
    (λ _. option_map (λ (rest : List BinPlace). record { start = at; size = size } ∷ rest) (bins_from steps bins (at + size)))
    (λ _. None))

-- the bins, or None where a header is bad
abbrev pub bins_of : List ℕ → Option (List BinPlace)
bins_of bins = bins_from (suc (length bins)) bins 0

-- the cells of such bins, or None where a size is bad
abbrev pub cells_of_bins : List ℕ → List BinPlace → Option (List Cell)
cells_of_bins bins [] = Some []
cells_of_bins bins (bin ∷ rest) =
    joined (cells_from (suc bin.size) bins (bin.start + 32) (bin.start + bin.size)) (cells_of_bins bins rest)

-- the cells of the bins, or None where a header or, all headers being good, a size is bad
unfoldable pub cells_of : List ℕ → Option (List Cell)
cells_of bins = option_and_then (cells_of_bins bins) (bins_of bins)

-- what the allocated cell at an offset holds, of these cells: the bytes behind its size field (section "Cell")
abbrev pub content_in : List ℕ → List Cell → ℕ → Option (List ℕ)
content_in bins [] offset = None
content_in bins (cell ∷ cells) offset =
    if (cell.offset == offset) && cell.allocated then Some (take (cell.size - 4) (drop (cell.offset + 4) bins)) else content_in bins cells offset

-- the same, where there are cells
abbrev pub content_of : List ℕ → Option (List Cell) → ℕ → Option (List ℕ)
content_of bins None offset = None
content_of bins (Some cells) offset = content_in bins cells offset

-- what the allocated cell at an offset holds, or None where there is none
unfoldable pub cell_at : List ℕ → ℕ → Option (List ℕ)
cell_at bins offset = content_of bins (cells_of bins) offset
