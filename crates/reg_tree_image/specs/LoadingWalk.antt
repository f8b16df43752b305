-- The walk that loads an image: its records in order, each with its tests in order (Suhanov, Windows registry file format
-- specification, "Key node", "Key value", "Key security", "Big data", "Subkeys list"; the limits are those of the Win32 registry
-- reference, "Registry Element Size Limits", and this project's own).
--
-- The offsets of the keys on the present path, from the lowest up to the root, are an argument of each step, `path`. What was named
-- and told before is what was seen.
use Rattle.std.specs.Prelude.{ℕ, zero, suc, ◌%◌, ◌==◌, ◌||◌, nat_le, nat_lt, not, Bool, true, false, Result, Ok, Err, List, [], ◌∷◌, ◌++◌, length, take}
use Rattle.std.specs.Prelude.{bit_and}
use Rattle.std.specs.List.{list_all, list_any}
use Rattle.std.specs.Ordering.{eq_by_cmp}
use Rattle.byteorder.specs.Endian.{little_bytes}
use Rattle.reg_names.specs.declared.TheConstants.{KEY_NAME_LIMIT, VALUE_NAME_LIMIT}
use Rattle.reg_names.specs.Names.{is_key_name_byte, is_value_name_byte}
use Rattle.reg_heap.specs.declared.limits.TheConstants.{DATA_LIMIT, DESCRIPTOR_LIMIT, SUBKEYS_LIMIT, VALUES_LIMIT}
use Rattle.reg_heap.specs.Paths.{Path, Rec, Member, path_cmp}
use Rattle.reg_heap.specs.Edits.{child_path}
use Rattle.reg_heap.specs.Heaps.{Heap}
use Rattle.reg_heap.specs.Members.{same_name}
use Rattle.reg_heap.specs.Kinds.{Kind}
use Rattle.reg_heap.specs.Kinds.Kind.{Key, Class, SubList, Leaf, ValueList, Value, Data, BigHead, BigList, Security}
use Rattle.reg_records.specs.declared.RecordFault.{RecordFault}
use Rattle.reg_records.specs.declared.RecordFault.TheVariants.{Short, Signature, Length, NotInProfile as PastProfile}
use Rattle.reg_records.specs.declared.lists.ListForm.TheVariants.{IndexRoot, IndexLeaf, FastLeaf, HashLeaf}
use Rattle.reg_records.specs.declared.nk.KeyFields.{KeyFields}
use Rattle.reg_records.specs.KeyNodes.{KeyRecord, nk_of}
use Rattle.reg_records.specs.KeyValues.{KeyValueRecord, vk_of}
use Rattle.reg_records.specs.KeySecurities.{sk_of}
use Rattle.reg_records.specs.OffsetRows.{row_in}
use Rattle.reg_records.specs.SubkeyLists.{Entry, Form, SubkeysList, list_of}
use Rattle.reg_records.specs.BigData.{Named, segment_size, is_inline, inline_size, segments_for, segments, db_of}
use Rattle.reg_shape.specs.Walk.{kind_met}
use Rattle.reg_shape.specs.Nodes.{letters, member_of}
use Rattle.reg_shape.specs.Spelt.{marks_of}
use Rattle.reg_tree_image.specs.declared.LoadFault.{LoadFault}
use Rattle.reg_tree_image.specs.declared.LoadFault.TheVariants.{Record, Twice, NotInProfile, Limit}
use Rattle.reg_tree_image.specs.WalkSteps.{Step, ◌>>=◌, ◌>>◌, give, check, given, tell, cell}

-- why a record can't be read: a predefined handle isn't in the profile, all else is a bad record
abbrev pub fault_of_record : RecordFault → LoadFault
fault_of_record Short = Record
fault_of_record Signature = Record
fault_of_record Length = Record
fault_of_record PastProfile = NotInProfile

-- a record, or the fault of it
abbrev pub read : {R : Type 0} → Result R RecordFault → Step R
read (Ok r) seen = Ok (r, seen)
read (Err fault) seen = Err (fault_of_record fault)

-- ---- names

-- a name's characters, of one byte each or of two: of two, an even number of bytes; at most so many; each of the profile
abbrev pub name_in : Bool → ℕ → (ℕ → Bool) → List ℕ → Step (List ℕ)
name_in single most is_allowed name = do
  check Record (single || (length name % 2 == 0))
  check Limit (nat_le (length (letters single name)) most)
  check NotInProfile (list_all is_allowed (letters single name))
  give (letters single name)

-- a key's name, which isn't empty ("Key node": flag 0x20 for one byte a character)
abbrev pub key_name : KeyRecord → Step (List ℕ)
key_name key = do
  check Record (nat_lt 0 (length key.name))
  name_in (not (bit_and key.fields.flags 32 == 0)) KEY_NAME_LIMIT is_key_name_byte key.name

-- a value's name ("Key value": flag 1 for one byte a character)
abbrev pub value_name : KeyValueRecord → Step (List ℕ)
value_name value = name_in (not (bit_and value.fields.flags 1 == 0)) VALUE_NAME_LIMIT is_value_name_byte value.name

-- the path of the root, whose name is in no path
abbrev pub root_path : List ℕ → Path
root_path name = []

-- no key was told at this path
abbrev pub is_free : Path → List (Path × Rec) → Bool
is_free path told = not (list_any (λ (e : Path × Rec). eq_by_cmp path_cmp e.0 path) told)

-- no sibling of the same folded name was met
abbrev pub no_sibling : Path → Step (Unit {0})
no_sibling path seen = check Twice (is_free path seen.told) seen

-- ---- lists of keys

-- the keys of a list, from the n-th subkey of their key on; each is walked to its end before the next is named
abbrev pub keys_each : (ℕ → Step (Unit {0})) → ℕ → List Entry → Step ℕ
keys_each go n [] = give n
keys_each go n (e ∷ entries) = do
  check Limit (nat_lt n SUBKEYS_LIMIT)
  go e.offset
  keys_each go (suc n) entries

-- an index root names no index root
abbrev pub leaf_as : Form → Step (Unit {0})
leaf_as IndexRoot = check Record false
leaf_as IndexLeaf = give tt
leaf_as FastLeaf = give tt
leaf_as HashLeaf = give tt

module _ (heap : Heap) where
  -- ---- what a key names, but values

  -- the first bytes of a cell, which holds so many
  abbrev pub bytes_from : List ℕ → Named → Step (List ℕ)
  bytes_from path n = do
    content ← cell heap path (λ _. n.kind) n.offset
    check Record (nat_le n.size (length content))
    give (take n.size content)

  -- the first offsets of a row, which has so many
  abbrev pub row_from : List ℕ → Kind → ℕ → ℕ → Step (List ℕ)
  row_from path kind count offset = do
    content ← cell heap path (λ _. kind) offset
    given Record (row_in count content)

  -- the bytes of each, one behind the other
  abbrev pub pieces_from : List ℕ → List ℕ → List Named → Step (List ℕ)
  pieces_from path so_far [] = give so_far
  pieces_from path so_far (n ∷ names) = do
    piece ← bytes_from path n
    pieces_from path (so_far ++ piece) names

  -- a class ("Key node"); of length 0 its offset isn't read
  abbrev pub class_from : List ℕ → ℕ → ℕ → Step (List ℕ)
  class_from path zero offset = give []
  class_from path (suc n) offset = bytes_from path (record { kind = Class; size = suc n; offset = offset })

  -- a security's descriptor, of 1 to 65,535 bytes ("Key security"); links and count aren't read
  abbrev pub descriptor_from : List ℕ → ℕ → Step (List ℕ)
  descriptor_from path offset = do
    content ← cell heap path (λ _. Security) offset
    security ← read (sk_of content)
    check Record (nat_lt 0 (length security.descriptor))
    check Limit (nat_le (length security.descriptor) DESCRIPTOR_LIMIT)
    give security.descriptor

  -- ---- a value

  -- its data behind a big data record, which has at least as many segments as the size needs; no more than these are read ("Big data")
  abbrev pub big_from : List ℕ → ℕ → ℕ → Step (List ℕ)
  big_from path size offset = do
    content ← cell heap path (λ _. BigHead) offset
    big ← given Record (db_of content)
    check Record (nat_le (segments_for size) big.count)
    row ← row_from path BigList (segments_for size) big.list
    pieces_from path [] (segments size row)

  -- its data elsewhere: of size 0 the offset isn't read; in a single cell, or behind a big data record
  abbrev pub far_from : List ℕ → Bool → ℕ → ℕ → Step (List ℕ)
  far_from path single zero offset = give []
  far_from path true (suc n) offset = bytes_from path (record { kind = Data; size = suc n; offset = offset })
  far_from path false (suc n) offset = big_from path (suc n) offset

  -- a value's record and its name
  abbrev pub named_value : List ℕ → ℕ → Step (KeyValueRecord × List ℕ)
  named_value path offset = do
    content ← cell heap path (λ _. Value) offset
    value ← read (vk_of content)
    name ← value_name value
    give (value, name)

  -- ---- a key's record, and its subkeys

  -- a key's record and its name
  abbrev pub named_key : List ℕ → ℕ → Step (KeyRecord × List ℕ)
  named_key path offset = do
    content ← cell heap path (λ _. Key) offset
    key ← read (nk_of content)
    name ← key_name key
    give (key, name)

  -- a key's record and its name, which no sibling before it has; `here` gives the path of a key of a name
  abbrev pub head_from : List ℕ → (List ℕ → Path) → ℕ → Step (KeyRecord × List ℕ)
  head_from path here offset = do
    head ← named_key path offset
    no_sibling (here head.1)
    give head

  -- a list of keys that an index root names
  abbrev pub leaf_from : List ℕ → ℕ → Step SubkeysList
  leaf_from path offset = do
    content ← cell heap path (λ _. Leaf) offset
    list ← given Record (list_of content)
    leaf_as list.form
    give list

  -- the lists of an index root, each in turn; n counts the subkeys
  abbrev pub lists_each : (ℕ → Step (Unit {0})) → List ℕ → ℕ → List Entry → Step (Unit {0})
  lists_each go path n [] = give tt
  lists_each go path n (e ∷ entries) = do
    list ← leaf_from path e.offset
    m ← keys_each go n list.entries
    lists_each go path m entries

  abbrev pub listed_as : (ℕ → Step (Unit {0})) → List ℕ → List Entry → Form → Step (Unit {0})
  listed_as go path entries IndexRoot = lists_each go path 0 entries
  listed_as go path entries IndexLeaf = keys_each go 0 entries >> give tt
  listed_as go path entries FastLeaf = keys_each go 0 entries >> give tt
  listed_as go path entries HashLeaf = keys_each go 0 entries >> give tt

  -- a list of keys, or an index root
  abbrev pub list_from : List ℕ → ℕ → Step SubkeysList
  list_from path offset = do
    content ← cell heap path (kind_met SubList) offset
    given Record (list_of content)

  -- a key's subkeys ("Subkeys list"); their number is only tested for 0
  abbrev pub subkeys_from : (ℕ → Step (Unit {0})) → List ℕ → ℕ → ℕ → Step (Unit {0})
  subkeys_from go path zero offset = give tt
  subkeys_from go path (suc n) offset = do
    list ← list_from path offset
    listed_as go path list.entries list.form

module _ (heap : Heap) (minor : ℕ) where
  -- a value's data, in the size and offset fields' words ("Key value"); in minor version 3 one cell holds data of any size
  abbrev pub data_by : List ℕ → Bool → ℕ → ℕ → Step (List ℕ)
  data_by path true size offset = do
    check Record (nat_le (inline_size size) 4)
    give (take (inline_size size) (little_bytes 4 offset))
  data_by path false size offset = do
    check Limit (nat_le size DATA_LIMIT)
    far_from heap path (nat_le size segment_size || (minor == 3)) size offset

  -- a value, with no value of its folded name before it
  abbrev pub value_from : List ℕ → List Member → ℕ → Step Member
  value_from path before offset = do
    value ← named_value heap path offset
    check Twice (not (list_any (λ (m : Member). same_name m.name value.1) before))
    bytes ← data_by path (is_inline value.0.fields.size) value.0.fields.size value.0.fields.offset
    give (member_of value.0 bytes)

  -- the values at these offsets, behind those before
  abbrev pub values_each : List ℕ → List Member → List ℕ → Step (List Member)
  values_each path before [] = give before
  values_each path before (offset ∷ offsets) = do
    member ← value_from path before offset
    values_each path (before ++ member ∷ []) offsets

  -- a key's values ("Key values list")
  abbrev pub values_from : List ℕ → ℕ → ℕ → Step (List Member)
  values_from path zero offset = give []
  values_from path (suc n) offset = do
    check Limit (nat_le (suc n) VALUES_LIMIT)
    row ← row_from heap path ValueList (suc n) offset
    values_each path [] row

  -- a key's class, its security's descriptor and its values
  abbrev pub parts_from : List ℕ → KeyFields → Step (List ℕ × List ℕ × List Member)
  parts_from path key = do
    class ← class_from heap path key.class_length key.class
    descriptor ← descriptor_from heap path key.security
    values ← values_from path key.values key.values_list
    give (class, descriptor, values)

  -- a key's class, descriptor and values; then the key is told
  abbrev pub rest_from : List ℕ → Path → KeyRecord → List ℕ → Step (Unit {0})
  rest_from path at key name = do
    parts ← parts_from path key.fields
    tell at (record {
      name = name;
      marks = marks_of key.fields.flags;
      class = parts.0;
      descriptor = parts.1;
      time = key.fields.time;
      values = parts.2;
    })

  -- a key and all below it, of so many levels of keys; where no level is left, the key is too deep
  unfoldable pub key_from : ℕ → List ℕ → (List ℕ → Path) → ℕ → Step (Unit {0})
  key_from zero path here offset = do
    head ← head_from heap path here offset
    check Limit false
  key_from (suc levels) path here offset = do
    head ← head_from heap path here offset
    let at = here head.1 in do
      rest_from (offset ∷ path) at head.0 head.1
      subkeys_from heap (key_from levels (offset ∷ path) (child_path at)) (offset ∷ path) head.0.fields.subkeys head.0.fields.subkeys_list
