-- The last list of a key's subkeys, given room for more of them (Suhanov, Windows registry file format specification, "Subkeys
-- list").
use Rattle.std.specs.Prelude.{ℕ, ◌+◌, ◌-◌, ◌*◌, nat_le, min, if◌then◌else◌, Option, Some, None, List, [], ◌∷◌, length}
use Rattle.reg_heap.specs.declared.limits.TheConstants.{LEAF_LIMIT}
use Rattle.reg_heap.specs.Heaps.{Heap}
use Rattle.reg_records.specs.RecordCells.{held}
use Rattle.reg_shape.specs.Nodes.{KeyList, Index, lists_of}
use Rattle.reg_index.specs.Subkeys.{exchanged, index_of, leaf_list, list_size, numbered}

-- the last of lists; no list of keys where there is none
abbrev pub last_of : List KeyList → KeyList
last_of lists = numbered (length lists - 1) lists

abbrev pub last_list : Index → KeyList
last_list index = last_of (lists_of index)

-- how many entries a list is to have room for: so many more than it has, and at most 500
abbrev pub wanted : KeyList → ℕ → ℕ
wanted list more = min LEAF_LIMIT (length list.list.entries + more)

-- the size of the cell that this takes: none where its cell has the room
abbrev pub longer_in : Heap → KeyList → ℕ → Option ℕ
longer_in heap list more =
    if nat_le (4 + 8 * wanted list more) (length (held heap list.offset)) then None else Some (list_size (wanted list more))

-- of the last list of a key's subkeys
unfoldable pub longer_size : Heap → ℕ → ℕ → ℕ → Option ℕ
longer_size heap count offset more = longer_in heap (last_list (index_of heap count offset)) more

-- lists of which the last moved to another cell, with its entries
abbrev pub last_moved : ℕ → List KeyList → List KeyList
last_moved cell lists = exchanged (length lists - 1) (leaf_list cell (last_of lists).list.entries ∷ []) lists
