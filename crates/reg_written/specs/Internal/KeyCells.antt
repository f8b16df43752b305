-- What is known of the cells of a key that was read: that its values and its lists of subkeys stand in them.
use Rattle.std.specs.Prelude.{◌≡◌, ◌≢◌, ◌<◌, ◌≤◌, ◌*◌, ℕ, nat_le, true, false, Some, Ok, IsSome, List, length}
use Rattle.std.specs.List.{AllByRecursion}
use Rattle.reg_heap.specs.Heaps.{Heap}
use Rattle.reg_records.specs.declared.nk.KeyFields.{KeyFields}
use Rattle.reg_records.specs.declared.lists.ListForm.TheVariants.{IndexRoot, IndexLeaf, FastLeaf, HashLeaf}
use Rattle.reg_records.specs.RecordCells.{held}
use Rattle.reg_records.specs.KeyNodes.{key_at}
use Rattle.reg_records.specs.KeyValues.{KeyValueRecord, vk_of}
use Rattle.reg_records.specs.OffsetRows.{offsets_at}
use Rattle.reg_records.specs.SubkeyLists.{Entry, Form, SubkeysList, list_of}
use Rattle.reg_records.specs.BigData.{is_inline, inline_size}

-- a value's record reads; data that stands in it has at most 4 bytes, and a big data record is there
pub record HasValue (heap : Heap) (offset : ℕ) : Type 0 where
  pub content : List ℕ
  pub here : heap offset ≡ Some content
  pub value : KeyValueRecord
  pub reads : vk_of content ≡ Ok value
  pub inline : is_inline value.fields.size ≡ true → nat_le (inline_size value.fields.size) 4 ≡ true
  pub big : is_inline value.fields.size ≡ false → 16344 < value.fields.size → IsSome (heap value.fields.offset)

-- a key's list of values is there, if it has any, and each of them
pub record HasValues (heap : Heap) (fields : KeyFields) : Type 0 where
  pub list : 0 < fields.values → IsSome (heap fields.values_list)
  pub long : 4 * fields.values ≤ length (held heap fields.values_list)
  pub values : AllByRecursion (HasValue heap) (offsets_at fields.values 0 (held heap fields.values_list))

-- the key of an entry reads
abbrev pub HasKey : Heap → Entry → Type 0
HasKey heap entry = IsSome (key_at heap entry.offset)

-- where this is a list, the key of each entry reads
abbrev pub HasKeys : Heap → List ℕ → Type 0
HasKeys heap content = (list : SubkeysList) → list_of content ≡ Some list → AllByRecursion (HasKey heap) list.entries

-- the list of keys of an entry is there
abbrev pub HasList : Heap → Entry → Type 0
HasList heap entry = IsSome (heap entry.offset) × HasKeys heap (held heap entry.offset)

abbrev pub AreThere : Heap → List Entry → Form → Type 0
AreThere heap entries IndexRoot = AllByRecursion (HasList heap) entries
AreThere heap entries IndexLeaf = AllByRecursion (HasKey heap) entries
AreThere heap entries FastLeaf = AllByRecursion (HasKey heap) entries
AreThere heap entries HashLeaf = AllByRecursion (HasKey heap) entries

-- where this is a key's list, each of its lists of keys is there, or the key of each entry reads
abbrev pub HasIndex : Heap → List ℕ → Type 0
HasIndex heap content = (list : SubkeysList) → list_of content ≡ Some list → AreThere heap list.entries list.form

-- a key's list of subkeys is there, if it has any
pub record HasSubkeys (heap : Heap) (fields : KeyFields) : Type 0 where
  pub list : fields.subkeys ≢ 0 → IsSome (heap fields.subkeys_list)
  pub index : fields.subkeys ≢ 0 → HasIndex heap (held heap fields.subkeys_list)
