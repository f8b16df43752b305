-- The arena as a value.
use Rattle.std.specs.Prelude.{◌≡◌, ℕ, ◌+◌, ◌≤◌, ◌%◌, List, length, take, drop, replicate, Some}
use Rattle.std.specs.List.{AllByRecursion}
use Rattle.reg_heap.specs.declared.limits.TheConstants.{BINS_LIMIT, NONE}
use Rattle.reg_heap.specs.Heaps.{Heap}
use Rattle.reg_arena.specs.declared.TheConstants.{LISTS}
use Rattle.reg_arena.specs.Cells.{Bin, AreBins, cells_in, cells_of, cell_at}
use Rattle.reg_arena.specs.Classes.{class_of}
use Rattle.reg_arena.specs.Free.{AreApart, AreFreeLists}

-- the bytes of the bins, and the heads of the free lists
pub record Bins : Type 0 where
  pub bytes : List ℕ
  pub heads : List ℕ

-- what the allocated cells of the bins hold, by their offsets
abbrev pub heap_of : Bins → Heap
heap_of bins = cell_at bins.bytes

-- the heads of lists without a cell
unfoldable pub empty_heads : List ℕ
empty_heads = replicate LISTS NONE

-- the last 20 bytes of each bin's header are zeros (Suhanov, Windows registry file format specification, section "Hive bin":
-- eight reserved, a time stamp of eight and four spare)
abbrev pub AreBlank : List ℕ → List Bin → Type 0
AreBlank bytes bins = AllByRecursion (λ (bin : Bin). take 20 (drop (bin.start + 12) bytes) ≡ replicate 20 0) bins

-- the bytes are bins of cells. The bins have at most 256 MiB, so that 0xFFFFFFFF is no offset
pub record IsArena (bytes : List ℕ) : Type 0 where
  pub layout : List Bin
  pub tiled : AreBins bytes 0 layout
  pub blank : AreBlank bytes layout
  pub apart : AreApart (cells_in layout)
  pub small : length bytes ≤ BINS_LIMIT

-- what holds of every arena: its bytes are bins of cells, whose offsets are multiples of 8, and its free lists, of which there are
-- 24, hold precisely the free cells, each list those of its sizes; what a bin's header has no use for is zeros; all bins together
-- have a multiple of 4096 bytes, at most 256 MiB
pub record IsSound (bytes heads : List ℕ) : Type 0 where
  pub bins : List Bin
  pub lists : List (List ℕ)
  pub bins_are : AreBins bytes 0 bins
  pub cells_are : cells_of bytes ≡ Some (cells_in bins)
  pub eights : AllByRecursion (λ cell. cell.offset % 8 ≡ 0) (cells_in bins)
  pub blank : AreBlank bytes bins
  pub free : AreFreeLists class_of bytes heads (cells_in bins) lists
  pub heads_are : length heads ≡ LISTS
  pub pages : length bytes % 4096 ≡ 0
  pub small : length bytes ≤ BINS_LIMIT
