-- A key with all that is its own, as it is read (Suhanov, Windows registry file format specification, "Key node", "Key value",
-- "Big data", "Subkeys list").
use Rattle.std.specs.Prelude.{ℕ, zero, suc, ◌+◌, ◌*◌, ◌==◌, nat_le, not, Bool, true, false, Option, Some, None, List, [], ◌∷◌, ◌++◌, flat_map, length}
use Rattle.std.specs.Prelude.{take, bit_and}
use Rattle.std.specs.Option.{option_map, option_and_then}
use Rattle.std.specs.List.{concat}
use Rattle.std.specs.Result.{result_ok}
use Rattle.byteorder.specs.Endian.{little_bytes}
use Rattle.reg_heap.specs.Paths.{Member}
use Rattle.reg_heap.specs.Heaps.{Heap}
use Rattle.reg_heap.specs.Kinds.{Kind, Found}
use Rattle.reg_heap.specs.Kinds.Kind.{Key, Class, ValueList, Value, Data, BigHead, BigList, Security}
use Rattle.reg_shape.specs.Readings.{Reading, ◌>>=◌, give, given, cell, guard, each}
use Rattle.reg_records.specs.declared.vk.ValueFields.{ValueFields}
use Rattle.reg_records.specs.KeyNodes.{KeyRecord, key_at}
use Rattle.reg_records.specs.KeyValues.{KeyValueRecord, vk_of}
use Rattle.reg_records.specs.OffsetRows.{row_in}
use Rattle.reg_records.specs.SubkeyLists.{SubkeysList, Entry, Form, list_of, offsets_in}
use Rattle.reg_records.specs.declared.lists.ListForm.TheVariants.{IndexRoot, IndexLeaf, FastLeaf, HashLeaf}
use Rattle.reg_records.specs.BigData.{Named, if_any, BigData, segment_size, is_inline, inline_size, segments_for, segments, db_of}

-- the first bytes of a cell, as many as are named
abbrev pub bytes_at : Named → Reading (List ℕ)
bytes_at named = do
  content ← cell named.kind named.offset
  guard (nat_le named.size (length content)) (give (take named.size content))

-- the bytes of several, one behind the other
abbrev pub pieces_at : List Named → Reading (List ℕ)
pieces_at names = do
  pieces ← each bytes_at names
  give (concat pieces)

-- the first offsets of a list, as many as a count says
abbrev pub row_at : Kind → ℕ → ℕ → Reading (List ℕ)
row_at kind count offset = do
  content ← cell kind offset
  given (row_in count content)

-- the data behind a big data record's list
abbrev pub big_in : ℕ → BigData → Reading (List ℕ)
big_in size big = do
  row ← row_at BigList (segments_for size) big.list
  pieces_at (segments size row)

-- the data behind a big data record
abbrev pub big_at : ℕ → ℕ → Reading (List ℕ)
big_at size offset = do
  content ← cell BigHead offset
  big ← given (db_of content)
  guard (nat_le (segments_for size) big.count) (big_in size big)

-- the data of a size that stands in the value, in one cell, or behind a big data record
abbrev pub data_by : Bool → Bool → ℕ → ℕ → Reading (List ℕ)
data_by true small size offset = guard (nat_le (inline_size size) 4) (give (take (inline_size size) (little_bytes 4 offset)))
data_by false true size offset = pieces_at (if_any Data size offset)
data_by false false size offset = big_at size offset

-- a value's data
abbrev pub data_at : ValueFields → Reading (List ℕ)
data_at value = data_by (is_inline value.size) (nat_le value.size segment_size) value.size value.offset

-- a name of one byte a character, or of UTF-16LE units
abbrev pub letters : Bool → List ℕ → List ℕ
letters true name = name
letters false name = units name
  where
    units : List ℕ → List ℕ
    units [] = []
    units (low ∷ []) = low ∷ []
    units (low ∷ high ∷ rest) = (low + 256 * high) ∷ units rest

-- a value as it is told
abbrev pub member_of : KeyValueRecord → List ℕ → Member
member_of value bytes = record { name = letters (not (bit_and value.fields.flags 1 == 0)) value.name; kind = value.fields.kind; bytes = bytes }

-- the value at an offset
abbrev pub member_at : ℕ → Reading Member
member_at offset = do
  content ← cell Value offset
  value ← given (result_ok (vk_of content))
  bytes ← data_at value.fields
  give (member_of value bytes)

-- so many values, in the order of their list
abbrev pub members_at : ℕ → ℕ → Reading (List Member)
members_at zero offset = give []
members_at (suc n) offset = do
  row ← row_at ValueList (suc n) offset
  each member_at row

-- a list of keys: its offset, its form and its entries
pub record KeyList : Type 0 where
  pub offset : ℕ
  pub list : SubkeysList

-- a key's subkeys: none, a list of keys, or an index root with several
pub data Index : Type 0 where
  Unlisted : Index
  Listed : KeyList → Index
  Rooted : ℕ → List KeyList → Index

-- a list of keys of a form; an index root is none
abbrev pub key_list_as : ℕ → SubkeysList → Form → Option KeyList
key_list_as offset list IndexRoot = None
key_list_as offset list IndexLeaf = Some (record { offset = offset; list = list })
key_list_as offset list FastLeaf = Some (record { offset = offset; list = list })
key_list_as offset list HashLeaf = Some (record { offset = offset; list = list })

-- the subkeys list that a cell holds
abbrev pub list_at : Heap → ℕ → Option SubkeysList
list_at heap offset = option_and_then list_of (heap offset)

abbrev pub key_list_at : Heap → ℕ → Option KeyList
key_list_at heap offset = option_and_then (λ list. key_list_as offset list list.form) (list_at heap offset)

-- each of the lists of keys, where all are there
abbrev pub key_lists_at : Heap → List ℕ → Option (List KeyList)
key_lists_at heap [] = Some []
key_lists_at heap (offset ∷ offsets) = option_and_then (λ list. option_map (λ lists. list ∷ lists) (key_lists_at heap offsets)) (key_list_at heap offset)

-- a key's subkeys, by the form of the list
abbrev pub index_as : Heap → ℕ → SubkeysList → Form → Option Index
index_as heap offset list IndexRoot = option_map (Rooted offset) (key_lists_at heap (offsets_in list.entries))
index_as heap offset list IndexLeaf = Some (Listed (record { offset = offset; list = list }))
index_as heap offset list FastLeaf = Some (Listed (record { offset = offset; list = list }))
index_as heap offset list HashLeaf = Some (Listed (record { offset = offset; list = list }))

-- a key's subkeys, from the number of them and the offset of the list
abbrev pub index_at : Heap → ℕ → ℕ → Option Index
index_at heap zero offset = Some Unlisted
index_at heap (suc count) offset = option_and_then (λ list. index_as heap offset list list.form) (list_at heap offset)

-- the lists of keys of an index
abbrev pub lists_of : Index → List KeyList
lists_of Unlisted = []
lists_of (Listed list) = list ∷ []
lists_of (Rooted offset lists) = lists

-- the entries of all lists of an index
abbrev pub entries_of : Index → List Entry
entries_of index = flat_map (λ (l : KeyList). l.list.entries) (lists_of index)

-- a key node with all that is its own: its record, class and values, the cells met in reading these, in order, and its subkeys
pub record Node : Type 0 where
  pub key : KeyRecord
  pub class : List ℕ
  pub values : List Member
  pub cells : List Found
  pub index : Index

-- the records met in reading a key itself: the key node, its class, its security and its values
abbrev pub met_of : ℕ → KeyRecord → List Found → List Found → List Found
met_of offset key class values =
    record { kind = Key; offset = offset } ∷ class ++ record { kind = Security; offset = key.fields.security } ∷ values

abbrev pub node_of : ℕ → KeyRecord → List ℕ × List Found → List Member × List Found → Index → Node
node_of offset key class values index =
    record { key = key; class = class.0; values = values.0; cells = met_of offset key class.1 values.1; index = index }

-- a key with its class, its values and its subkeys
abbrev pub node_in : Heap → ℕ → KeyRecord → Option Node
node_in heap offset key =
    option_and_then (λ class.
    option_and_then (λ values.
    option_map (node_of offset key class values) (index_at heap key.fields.subkeys key.fields.subkeys_list))
    (members_at key.fields.values key.fields.values_list heap))
    (pieces_at (if_any Class key.fields.class_length key.fields.class) heap)

-- the key at an offset; its security is met and not read
unfoldable pub look : Heap → ℕ → Option Node
look heap offset = option_and_then (node_in heap offset) (key_at heap offset)
