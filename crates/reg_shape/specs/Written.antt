-- Records as this project writes them (Suhanov, Windows registry file format specification, "Key node", "Subkeys list",
-- "Key value", "Big data", "Key security"). What a key holds of its subkeys and values is exact; the four largest lengths are
-- raised where needed and never lowered.
use Rattle.std.specs.Prelude.{◌≡◌, ◌≢◌, ℕ, ◌*◌, ◌<◌, ◌≤◌, ◌%◌, ◌==◌, if◌then◌else◌, true, false, Some, List, [], ◌∷◌, map, length, drop, replicate}
use Rattle.std.specs.Prelude.{◌-◌, bit_and, ⊤}
use Rattle.std.specs.List.{AllByRecursion}
use Rattle.std.specs.Ordering.{nat_cmp}
use Rattle.std.specs.declared.cmp.Ordering.TheVariants.{Less}
use Rattle.std.specs.Cmp.Lexicographic.{slice_cmp}
use Rattle.byteorder.specs.Endian.{little_bytes}
use Rattle.reg_names.specs.Names.{folded, hash, is_key_name, is_value_name}
use Rattle.reg_heap.specs.declared.limits.TheConstants.{DATA_LIMIT, DESCRIPTOR_LIMIT, NONE, LEAF_LIMIT, SUBKEYS_LIMIT, VALUES_LIMIT}
use Rattle.reg_heap.specs.Paths.{Member}
use Rattle.reg_heap.specs.Heaps.{Heap}
use Rattle.reg_records.specs.declared.vk.ValueFields.{ValueFields}
use Rattle.reg_records.specs.RecordCells.{held}
use Rattle.reg_records.specs.KeyNodes.{IsPlainKey}
use Rattle.reg_records.specs.KeyValues.{KeyValueRecord, value_record_at, IsPlainValue}
use Rattle.reg_records.specs.KeySecurities.{KeySecurityRecord, security_at, IsPlainSecurity}
use Rattle.reg_records.specs.OffsetRows.{offsets_at}
use Rattle.reg_records.specs.SubkeyLists.{Entry, offsets_in}
use Rattle.reg_records.specs.declared.lists.ListForm.TheVariants.{HashLeaf}
use Rattle.reg_records.specs.BigData.{BigData, segment_size, is_inline, inline_size, segments_for, db_of}
use Rattle.reg_shape.specs.Nodes.{Node, KeyList, Index, entries_of}
use Rattle.reg_shape.specs.Nodes.Index.{Unlisted, Listed, Rooted}

-- each before all that follow it
abbrev pub Pairwise : {A : Type 0} → (A → A → Type 0) → List A → Type 0
Pairwise R [] = ⊤
Pairwise R (x ∷ xs) = AllByRecursion (R x) xs × Pairwise R xs

-- the first name comes before the second, folded
abbrev pub Precedes : List ℕ → List ℕ → Type 0
Precedes a b = slice_cmp nat_cmp (folded a) (folded b) ≡ Less

-- a list of keys: an `lh` of 1 to 500 entries
pub record IsWrittenList (list : KeyList) : Type 0 where
  pub form : list.list.form ≡ HashLeaf
  pub some : 1 ≤ length list.list.entries
  pub few : length list.list.entries ≤ LEAF_LIMIT

-- a key's subkeys: none, one list, or an index root of two or more
abbrev pub IsWrittenIndex : Index → Type 0
IsWrittenIndex Unlisted = ⊤
IsWrittenIndex (Listed list) = IsWrittenList list
IsWrittenIndex (Rooted offset lists) = (2 ≤ length lists) × AllByRecursion IsWrittenList lists

-- data of up to 4 bytes stands in the value, with the top bit set and unused bytes 0; more than 16,344 bytes stand behind a big
-- data record, which has exactly the segments that they need
pub record IsWrittenData (heap : Heap) (value : ValueFields) : Type 0 where
  pub inline : is_inline value.size ≡ true → drop (inline_size value.size) (little_bytes 4 value.offset) ≡ replicate (4 - inline_size value.size) 0
  pub far : is_inline value.size ≡ false → 4 < value.size
  pub big : is_inline value.size ≡ false → segment_size < value.size →
      (big : BigData) × (db_of (held heap value.offset) ≡ Some big) × (big.count ≡ segments_for value.size)

-- a value's record; its flag says that it has a name
pub record IsWrittenValue (heap : Heap) (offset : ℕ) : Type 0 where
  pub value : KeyValueRecord
  pub reads : value_record_at heap offset ≡ Some value
  pub plain : IsPlainValue (held heap offset)
  pub flags : value.fields.flags ≡ (if length value.name == 0 then 0 else 1)
  pub data_is : IsWrittenData heap value.fields

-- a list of values: names that differ after folding, of the profile, data of at most 1,048,576 bytes; without values no list
pub record AreWritten (heap : Heap) (count offset : ℕ) (members : List Member) : Type 0 where
  pub few : count ≤ VALUES_LIMIT
  pub none : count ≡ 0 → offset ≡ NONE
  pub each : AllByRecursion (IsWrittenValue heap) (offsets_at count 0 (held heap offset))
  pub names : AllByRecursion (λ (m : Member). is_value_name m.name ≡ true) members
  pub apart : Pairwise (λ (a b : Member). folded a.name ≢ folded b.name) members
  pub sizes : AllByRecursion (λ (m : Member). length m.bytes ≤ DATA_LIMIT) members

-- a key's values: a list of them, and no name or data longer than the key says
pub record AreWrittenValues (heap : Heap) (node : Node) : Type 0 where
  pub list : AreWritten heap node.key.fields.values node.key.fields.values_list node.values
  pub longest_name : AllByRecursion (λ (m : Member). 2 * length m.name ≤ node.key.fields.largest_value_name) node.values
  pub largest : AllByRecursion (λ (m : Member). length m.bytes ≤ node.key.fields.largest_value_data) node.values

-- a key node: marks without 0x67 beside 0x20 and the root's 0x04, a key's name, as many subkeys as its lists have; the upper 16
-- bits of the field of the largest subkey name length are 0
pub record IsWrittenKey (heap : Heap) (root offset : ℕ) (node : Node) : Type 0 where
  pub plain : IsPlainKey (held heap offset)
  pub flags : bit_and node.key.fields.flags 103 ≡ (if offset == root then 36 else 32)
  pub name : is_key_name node.key.name ≡ true
  pub parent : offset ≡ root → node.key.fields.parent ≡ NONE
  pub class : node.key.fields.class_length ≡ 0 → node.key.fields.class ≡ NONE
  pub values : AreWrittenValues heap node
  pub subkeys : node.key.fields.subkeys ≡ length (entries_of node.index)
  pub few : node.key.fields.subkeys ≤ SUBKEYS_LIMIT
  pub none : node.key.fields.subkeys ≡ 0 → node.key.fields.subkeys_list ≡ NONE
  pub upper : node.key.fields.largest_subkey_name < 65536
  pub index : IsWrittenIndex node.index

-- what a key says of its subkeys, and they of it: the entries name them, in the strict order of their folded names and with their
-- hashes; each names the key as its parent, and none is longer than the key says
pub record Fits (offset : ℕ) (node : Node) (below : List (ℕ × Node)) : Type 0 where
  pub offsets : map (λ (e : ℕ × Node). e.0) below ≡ offsets_in (entries_of node.index)
  pub hashes : map (λ (e : ℕ × Node). hash e.1.key.name) below ≡ map (λ (e : Entry). e.hint) (entries_of node.index)
  pub order : Pairwise (λ (a b : ℕ × Node). Precedes a.1.key.name b.1.key.name) below
  pub parents : AllByRecursion (λ (e : ℕ × Node). e.1.key.fields.parent ≡ offset) below
  pub longest_name : AllByRecursion (λ (e : ℕ × Node). 2 * length e.1.key.name ≤ node.key.fields.largest_subkey_name % 65536) below
  pub longest_class : AllByRecursion (λ (e : ℕ × Node). e.1.key.fields.class_length ≤ node.key.fields.largest_subkey_class) below

-- a key security, with a descriptor of 1 to 65,535 bytes
pub record IsWrittenSecurity (heap : Heap) (offset : ℕ) : Type 0 where
  pub security : KeySecurityRecord
  pub reads : security_at heap offset ≡ Some security
  pub plain : IsPlainSecurity (held heap offset)
  pub some : 1 ≤ length security.descriptor
  pub short : length security.descriptor ≤ DESCRIPTOR_LIMIT
