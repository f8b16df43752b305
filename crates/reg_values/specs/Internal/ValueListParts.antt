-- The parts of a list of values, and what is written into cells (Suhanov, Windows registry file format specification, "Key
-- values list", "Big data").
use Rattle.std.specs.Prelude.{◌≡◌, ℕ, ◌+◌, ◌-◌, ◌*◌, ◌<◌, ◌≤◌, zero, suc, nat_le, List, [], length, get_or, Some}
use Rattle.std.specs.List.{AllByRecursion}
use Rattle.reg_heap.specs.Heaps.{Heap, CellFrame, Writes, allocated}
use Rattle.reg_heap.specs.Kinds.{Found, times, owned}
use Rattle.reg_heap.specs.Kinds.Kind.{ValueList}
use Rattle.reg_shape.specs.Readings.{Reading, give, each}
use Rattle.reg_heap.specs.Paths.{Member}
use Rattle.reg_records.specs.RecordCells.{HasRoom, held}
use Rattle.reg_records.specs.OffsetRows.{offsets_at}
use Rattle.reg_records.specs.BigData.{segment_size, is_inline, segments_for, segments}
use Rattle.reg_shape.specs.Nodes.{pieces_at, row_at, data_by, member_at}
use Rattle.reg_shape.specs.Written.{IsWrittenData, IsWrittenValue}

-- the bytes of the segments of data of a size, whose offsets stand at the start of a list's content
abbrev pub segments_at : ℕ → List ℕ → Reading (List ℕ)
segments_at size list = pieces_at (segments size (offsets_at (segments_for size) 0 list))

-- the offsets of so many values: without values no list is read
abbrev pub list_at : ℕ → ℕ → Reading (List ℕ)
list_at zero offset = give []
list_at (suc n) offset = row_at ValueList (suc n) offset

-- these cells may hold other bytes now, as many as before, and nothing else changed
pub record Fills (old new : Heap) (cells : List ℕ) : Type 0 where
  pub writes : Writes old new cells
  pub sizes : (offset : ℕ) → length (held new offset) ≡ length (held old offset)

-- what is read is there, and each of its cells is allocated and met once
pub record Owns {A : Type 0} (r : Reading A) (heap : Heap) : Type 0 where
  pub result : A
  pub met : List Found
  pub reads : r heap ≡ Some (result, met)
  pub once : (offset : ℕ) → owned offset met ≤ allocated heap offset

-- the same, and some further cells are allocated too, each named once and none of them met
pub record OwnsBeside {A : Type 0} (r : Reading A) (heap : Heap) (spare : List ℕ) : Type 0 where
  pub result : A
  pub met : List Found
  pub reads : r heap ≡ Some (result, met)
  pub once : (offset : ℕ) → owned offset met + times offset spare ≤ allocated heap offset

-- the cells that a reading meets were given up, and nothing else changed
abbrev pub GivesUpRead : {A : Type 0} → Reading A → Heap → Heap → Type 0
GivesUpRead {A = A} r old new =
    (x : A) → (met : List Found) → r old ≡ Some (x, met) → CellFrame old new (λ offset. owned offset met) (λ offset. 0)

-- the list reads as these offsets now; cells that are counted so were given up for its own, and nothing else changed
pub record BecameList (old new : Heap) (gone : ℕ → ℕ) (count list_offset : ℕ) (row : List ℕ) : Type 0 where
  pub cells : List Found
  pub reads : list_at count list_offset new ≡ Some (row, cells)
  pub frame : CellFrame old new gone (λ offset. owned offset cells)

-- these cells differ, and each holds as many bytes as a cell of its size has room for
pub record HaveRoom (heap : Heap) (cells sizes : List ℕ) : Type 0 where
  pub as_many : length cells ≡ length sizes
  pub once : (offset : ℕ) → times offset cells ≤ 1
  pub room : (index : ℕ) → index < length cells → HasRoom heap (get_or cells index 0) (get_or sizes index 0 - 4)

-- a record with this size field and data offset has these bytes as its data, in just these cells, as it is written
pub record HoldsData (heap : Heap) (size data_offset : ℕ) (bytes cells : List ℕ) : Type 0 where
  pub met : List Found
  pub reads : data_by (is_inline size) (nat_le size segment_size) size data_offset heap ≡ Some (bytes, met)
  pub owns : (offset : ℕ) → owned offset met ≡ times offset cells
  pub written : (kind flags : ℕ) → IsWrittenData heap (record { size = size; offset = data_offset; kind = kind; flags = flags })

-- a cell holds a value's record, whose cells are just these
pub record HoldsValue (heap : Heap) (cell : ℕ) (member : Member) (cells : List ℕ) : Type 0 where
  pub met : List Found
  pub reads : member_at cell heap ≡ Some (member, met)
  pub owns : (offset : ℕ) → owned offset met ≡ times offset cells
  pub written : IsWrittenValue heap cell

-- the value whose record is in a cell reads as another now, as it is written; cells that are counted so were given up for its own,
-- and nothing else changed
pub record BecameValue (old new : Heap) (gone : ℕ → ℕ) (cell : ℕ) (member : Member) : Type 0 where
  pub cells : List Found
  pub reads : member_at cell new ≡ Some (member, cells)
  pub written : IsWrittenValue new cell
  pub frame : CellFrame old new gone (λ offset. owned offset cells)

-- no cell came, and these cells hold as many bytes as before
pub record Keeps (old new : Heap) (cells : List ℕ) : Type 0 where
  pub fewer : (offset : ℕ) → allocated new offset ≤ allocated old offset
  pub sizes : (offset : ℕ) → 0 < times offset cells → length (held new offset) ≡ length (held old offset)

-- these values stand in a list's cell behind its first few, with a record each, and what is met of theirs are just these cells
pub record StandBehind (heap : Heap) (list first : ℕ) (members : List Member) (cells : List ℕ) : Type 0 where
  pub met : List Found
  pub reads : each member_at (offsets_at (length members) (4 * first) (held heap list)) heap ≡ Some (members, met)
  pub owns : (offset : ℕ) → owned offset met ≡ times offset cells
  pub written : AllByRecursion (IsWrittenValue heap) (offsets_at (length members) (4 * first) (held heap list))
