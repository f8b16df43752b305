-- A bin more at the end of the bins.
use Rattle.std.specs.Prelude.{◌≡◌, ℕ, ◌+◌, ◌-◌, ◌<◌, ◌≤◌, ◌%◌, List, [], ◌∷◌, ◌++◌, length, replicate, Some}
use Rattle.byteorder.specs.Endian.{little_bytes}
use Rattle.reg_heap.specs.declared.limits.TheConstants.{BINS_LIMIT}
use Rattle.reg_heap.specs.ByteWords.{splice}
use Rattle.reg_arena.specs.declared.Cell.{Cell}
use Rattle.reg_arena.specs.Cells.{cells_of, cell_at}
use Rattle.reg_arena.specs.NewCells.{unused}

-- the least size that a bin may have, where its header and so many bytes of cells are to fit
-- (Suhanov, section "Hive bin": the size of a bin is a multiple of 4096)
pub record IsBinSize (size total : ℕ) : Type 0 where
  pub pages : size % 4096 ≡ 0
  pub holds : 32 + total ≤ size
  pub least : (other : ℕ) → other % 4096 ≡ 0 → 32 + total ≤ other → size ≤ other

-- with a bin of the least size more, all bins would have more than 256 MiB
pub record PassesLimit (bytes : List ℕ) (total : ℕ) : Type 0 where
  pub size : ℕ
  pub least : IsBinSize size total
  pub passes : BINS_LIMIT < length bytes + size

-- with a bin of the least size more, all bins have at most 256 MiB
abbrev pub HasRoomForBin : List ℕ → ℕ → Type 0
HasRoomForBin bytes total = (size : ℕ) → IsBinSize size total → length bytes + size ≤ BINS_LIMIT

-- a new bin's bytes: `hbin`, its offset, its size, 20 zeros, and one free cell, which has a size and a link and else zeros
-- (Suhanov, sections "Hive bin" and "Cell")
abbrev pub new_bin : ℕ → ℕ → ℕ → List ℕ
new_bin at size link =
    little_bytes 4 1852400232 ++
    (little_bytes 4 at ++
    (little_bytes 4 size ++
    (replicate 20 0 ++ (little_bytes 4 (size - 32) ++ (little_bytes 4 link ++ replicate (size - 40) 0)))))

-- the bytes after the three words of a bin's header were written
abbrev pub headed : ℕ → ℕ → List ℕ → List ℕ
headed at size bytes =
    splice (at + 8) (little_bytes 4 size) (splice (at + 4) (little_bytes 4 at) (splice at (little_bytes 4 1852400232) bytes))

-- a bin of the least size was appended, with one free cell; the other cells stay as they were
pub record AppendsBin (old new : List ℕ) (total : ℕ) : Type 0 where
  pub size : ℕ
  pub link : ℕ
  pub cells : List Cell
  pub least : IsBinSize size total
  pub bytes : new ≡ old ++ new_bin (length old) size link
  pub was : cells_of old ≡ Some cells
  pub now : cells_of new ≡ Some (cells ++ unused (length old + 32) (size - 32) ∷ [])
  pub contents : (offset : ℕ) → cell_at new offset ≡ cell_at old offset
