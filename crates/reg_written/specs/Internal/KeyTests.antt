-- What is tested of a key that reads: a Bool for each part of what `IsWritten` says of it.
use Rattle.std.specs.Prelude.{ℕ, ◌-◌, ◌*◌, ◌%◌, ◌==◌, ◌&&◌, ◌||◌, not, nat_le, nat_lt, Bool, true, false, cond, Option, Some, None, List, [], ◌∷◌, length, drop, bit_and}
use Rattle.std.specs.List.{list_all}
use Rattle.std.specs.Option.{option_and_then}
use Rattle.std.specs.Ordering.{is_lt}
use Rattle.byteorder.specs.Endian.{little_bytes}
use Rattle.reg_names.specs.Names.{hash, is_key_name, name_cmp}
use Rattle.reg_heap.specs.declared.limits.TheConstants.{NONE, LEAF_LIMIT, SUBKEYS_LIMIT}
use Rattle.reg_heap.specs.ByteWords.{half, word}
use Rattle.reg_heap.specs.Heaps.{Heap}
use Rattle.reg_records.specs.declared.nk.KeyFields.{KeyFields}
use Rattle.reg_records.specs.declared.vk.ValueFields.{ValueFields}
use Rattle.reg_records.specs.declared.lists.ListForm.TheVariants.{IndexRoot, IndexLeaf, FastLeaf, HashLeaf}
use Rattle.reg_records.specs.RecordCells.{held}
use Rattle.reg_records.specs.KeyNodes.{KeyRecord, key_at}
use Rattle.reg_records.specs.KeyValues.{KeyValueRecord, value_record_at}
use Rattle.reg_records.specs.OffsetRows.{offsets_at}
use Rattle.reg_records.specs.SubkeyLists.{Entry, Form, SubkeysList, list_of}
use Rattle.reg_records.specs.BigData.{BigData, segment_size, is_inline, inline_size, segments_for, db_of}

-- ---- the key node

-- the parts of a key node of which nothing is read
abbrev pub is_plain_node : List ℕ → Bool
is_plain_node content = (word content 12 == 0) && ((word content 24 == 0) && ((word content 32 == NONE) && (word content 68 == 0)))

-- its flags, and its parent where it is the root
abbrev pub has_flags : Bool → KeyFields → Bool
has_flags is_root fields = (bit_and fields.flags 103 == cond is_root 36 32) && (not is_root || (fields.parent == NONE))

-- no offset where there is nothing
abbrev pub has_no_offset : ℕ → ℕ → Bool
has_no_offset count offset = not (count == 0) || (offset == NONE)

abbrev pub has_fit_offsets : KeyFields → Bool
has_fit_offsets fields = has_no_offset fields.class_length fields.class
    && (has_no_offset fields.values fields.values_list && has_no_offset fields.subkeys fields.subkeys_list)

abbrev pub has_fit_counts : KeyFields → Bool
has_fit_counts fields = nat_le fields.subkeys SUBKEYS_LIMIT && nat_lt fields.largest_subkey_name 65536

abbrev pub is_node : Bool → List ℕ → KeyRecord → Bool
is_node is_root content key = is_plain_node content
    && (has_flags is_root key.fields && (is_key_name key.name && (has_fit_offsets key.fields && has_fit_counts key.fields)))

-- ---- its values

-- the bytes of the offset's field that aren't data are 0
abbrev pub has_zeros : ℕ → ℕ → Bool
has_zeros count offset = list_all (λ b. b == 0) (drop count (little_bytes 4 offset))

abbrev pub has_segments : ℕ → Option BigData → Bool
has_segments count None = false
has_segments count (Some big) = big.count == count

-- data that doesn't stand in the value
abbrev pub is_far : Heap → ValueFields → Bool
is_far heap value = nat_lt 4 value.size && (nat_le value.size segment_size || has_segments (segments_for value.size) (db_of (held heap value.offset)))

abbrev pub is_data : Heap → ValueFields → Bool
is_data heap value = cond (is_inline value.size) (has_zeros (inline_size value.size) value.offset) (is_far heap value)

-- how many bytes of data a value has
abbrev pub data_size : ℕ → ℕ
data_size size = cond (is_inline size) (inline_size size) size

-- a value's own record
abbrev pub is_record : List ℕ → KeyValueRecord → Bool
is_record content value = (half content 18 == 0) && (value.fields.flags == cond (length value.name == 0) 0 1)

-- no name or data longer than the key says
abbrev pub is_within : KeyFields → KeyValueRecord → Bool
is_within key value = nat_le (2 * length value.name) key.largest_value_name && nat_le (data_size value.fields.size) key.largest_value_data

abbrev pub is_value : Heap → KeyFields → List ℕ → KeyValueRecord → Bool
is_value heap key content value = is_record content value && (is_within key value && is_data heap value.fields)

abbrev pub is_value_in : Heap → KeyFields → List ℕ → Option KeyValueRecord → Bool
is_value_in heap key content None = false
is_value_in heap key content (Some value) = is_value heap key content value

-- the value at an offset
abbrev pub is_value_at : Heap → KeyFields → ℕ → Bool
is_value_at heap key offset = is_value_in heap key (held heap offset) (value_record_at heap offset)

-- ---- its subkeys

-- how many subkeys are still to come, and the name of the last one, if there was one
pub record Siblings : Type 0 where
  pub left : ℕ
  pub last : Option (List ℕ)

-- a name comes after the last one
abbrev pub is_behind : Option (List ℕ) → List ℕ → Bool
is_behind None name = true
is_behind (Some last) name = is_lt (name_cmp last name)

-- a subkey is one of its parent's, and has no longer a name or class than that says
abbrev pub is_child : ℕ → KeyFields → Entry → KeyRecord → Bool
is_child parent fields entry key = (key.fields.parent == parent) && ((hash key.name == entry.hint)
    && (nat_le (2 * length key.name) (fields.largest_subkey_name % 65536) && nat_le key.fields.class_length fields.largest_subkey_class))

abbrev pub with_child : ℕ → KeyFields → Siblings → Entry → Option KeyRecord → Option Siblings
with_child parent fields before entry None = None
with_child parent fields before entry (Some key) = cond (nat_lt 0 before.left && (is_behind before.last key.name && is_child parent fields entry key))
    (Some (record { left = before.left - 1; last = Some key.name })) None

-- one more subkey
abbrev pub with_entry : Heap → ℕ → KeyFields → Siblings → Entry → Option Siblings
with_entry heap parent fields before entry = with_child parent fields before entry (key_at heap entry.offset)

-- all of a list's entries, one after another
abbrev pub with_entries : Heap → ℕ → KeyFields → List Entry → Siblings → Option Siblings
with_entries heap parent fields [] before = Some before
with_entries heap parent fields (entry ∷ entries) before = option_and_then (with_entries heap parent fields entries) (with_entry heap parent fields before entry)

abbrev pub is_hash_leaf : Form → Bool
is_hash_leaf IndexRoot = false
is_hash_leaf IndexLeaf = false
is_hash_leaf FastLeaf = false
is_hash_leaf HashLeaf = true

-- a list of keys: an `lh` of 1 to 500 entries
abbrev pub is_list : SubkeysList → Bool
is_list list = is_hash_leaf list.form && (nat_lt 0 (length list.entries) && nat_le (length list.entries) LEAF_LIMIT)

abbrev pub with_list : Heap → ℕ → KeyFields → SubkeysList → Siblings → Option Siblings
with_list heap parent fields list before = cond (is_list list) (with_entries heap parent fields list.entries before) None

abbrev pub with_list_in : Heap → ℕ → KeyFields → Option SubkeysList → Siblings → Option Siblings
with_list_in heap parent fields None before = None
with_list_in heap parent fields (Some list) before = with_list heap parent fields list before

-- the lists of an index root, one after another
abbrev pub with_lists : Heap → ℕ → KeyFields → List Entry → Siblings → Option Siblings
with_lists heap parent fields [] before = Some before
with_lists heap parent fields (entry ∷ entries) before =
    option_and_then (with_lists heap parent fields entries) (with_list_in heap parent fields (option_and_then list_of (heap entry.offset)) before)

-- a key's list: of keys, or an index root of two or more lists
abbrev pub with_form : Heap → ℕ → KeyFields → SubkeysList → Form → Siblings → Option Siblings
with_form heap parent fields list IndexRoot before = cond (nat_lt 1 (length list.entries)) (with_lists heap parent fields list.entries before) None
with_form heap parent fields list IndexLeaf before = with_list heap parent fields list before
with_form heap parent fields list FastLeaf before = with_list heap parent fields list before
with_form heap parent fields list HashLeaf before = with_list heap parent fields list before

abbrev pub with_index : Heap → ℕ → KeyFields → Option SubkeysList → Siblings → Option Siblings
with_index heap parent fields None before = None
with_index heap parent fields (Some list) before = with_form heap parent fields list list.form before

-- no subkey is still to come
abbrev pub are_all : Option Siblings → Bool
are_all None = false
are_all (Some siblings) = siblings.left == 0

abbrev pub has_subkeys : Heap → ℕ → KeyFields → Bool
has_subkeys heap parent fields = cond (fields.subkeys == 0) true
    (are_all (with_index heap parent fields (option_and_then list_of (heap fields.subkeys_list)) (record { left = fields.subkeys; last = None })))

-- ---- all of it

-- the values of a key, by their list
abbrev pub has_values : Heap → KeyFields → Bool
has_values heap fields = list_all (is_value_at heap fields) (offsets_at fields.values 0 (held heap fields.values_list))

abbrev pub is_key : Heap → ℕ → ℕ → List ℕ → KeyRecord → Bool
is_key heap root offset content key = is_node (offset == root) content key && (has_values heap key.fields && has_subkeys heap offset key.fields)
