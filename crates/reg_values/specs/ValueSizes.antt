-- The cells that a set of a value takes (Suhanov, Windows registry file format specification, "Cell", "Key values list",
-- "Key value", "Big data").
use Rattle.std.specs.Prelude.{ℕ, zero, suc, ◌+◌, ◌-◌, ◌*◌, ◌/◌, ◌==◌, ◌&&◌, nat_lt, nat_le, not, min, Bool, if◌then◌else◌, Option, Some, None, List}
use Rattle.std.specs.Prelude.{[], ◌∷◌, ◌++◌, length}
use Rattle.std.specs.Option.{option_and_then}
use Rattle.reg_heap.specs.declared.limits.TheConstants.{VALUES_LIMIT}
use Rattle.reg_heap.specs.Members.{index_named}
use Rattle.reg_heap.specs.Heaps.{Heap}
use Rattle.reg_arena.specs.NewCells.{cell_size}
use Rattle.reg_records.specs.declared.vk.ValueFields.{ValueFields}
use Rattle.reg_records.specs.RecordCells.{held}
use Rattle.reg_records.specs.KeyValues.{KeyValueRecord, value_record_at}
use Rattle.reg_records.specs.OffsetRows.{offset_in}
use Rattle.reg_records.specs.BigData.{segment_size, segments_for}
use Rattle.reg_shape.specs.Nodes.{members_at}

-- the cells of so many segments, each of the largest size but the last, which has the rest
abbrev pub segment_sizes : ℕ → ℕ → List ℕ
segment_sizes zero size = []
segment_sizes (suc count) size = cell_size (min segment_size size) ∷ segment_sizes count (size - segment_size)

-- the cells of data of a size: none up to 4 bytes, one, or a big data record, its list and the segments
unfoldable pub data_sizes : ℕ → List ℕ
data_sizes size =
    if nat_le size 4 then []
    else if nat_le size segment_size then cell_size size ∷ []
    else cell_size 8 ∷ cell_size (4 * segments_for size) ∷ segment_sizes (segments_for size) size

-- there is a list, and its cell has room for one value more
abbrev pub has_room : Heap → ℕ → ℕ → Bool
has_room heap count offset = not (count == 0) && nat_le (4 * count + 4) (length (held heap offset))

-- for how many values a list is made that moves and then holds so many: for just these up to 64, and else for a quarter more, at most for
-- 16,384
unfoldable pub room_for : ℕ → ℕ
room_for count = if nat_le count 64 then count else min (count + count / 4) VALUES_LIMIT

-- the cell of a list that gets one value more: none where the list's own cell has room
unfoldable pub list_sizes : Heap → ℕ → ℕ → List ℕ
list_sizes heap count offset = if has_room heap count offset then [] else cell_size (4 * room_for (count + 1)) ∷ []

-- new data stays in the old data's one cell, which has the size that it needs
unfoldable pub stays : Heap → ValueFields → ℕ → Bool
stays heap old size =
    nat_lt 4 size && nat_le size segment_size && nat_le old.size segment_size && (cell_size size == length (held heap old.offset) + 4)

-- the cells of other data for a value
abbrev pub new_data_sizes : Heap → ℕ → Option KeyValueRecord → List ℕ
new_data_sizes heap size None = []
new_data_sizes heap size (Some old) = if stays heap old.fields size then [] else data_sizes size

-- the cells of a value that is set: for a new one its record, a list if it moves, and its data
abbrev pub sizes_by : Heap → ℕ → ℕ → ℕ → ℕ → Option ℕ → List ℕ
sizes_by heap count offset name size None = cell_size (20 + name) ∷ list_sizes heap count offset ++ data_sizes size
sizes_by heap count offset name size (Some index) = new_data_sizes heap size (value_record_at heap (offset_in (held heap offset) index))

-- the index of the value of that name, in the list as it reads
abbrev pub index_in : Heap → ℕ → ℕ → List ℕ → Option ℕ
index_in heap count offset name = option_and_then (λ read. index_named name read.0) (members_at count offset heap)

-- the sizes of the cells that a set of a value of that name, with data of a size, takes
unfoldable pub set_sizes : Heap → ℕ → ℕ → List ℕ → ℕ → List ℕ
set_sizes heap count offset name size = sizes_by heap count offset (length name) size (index_in heap count offset name)
