-- What is written into a key node, and what is told of a value.
use Rattle.std.specs.Prelude.{◌≡◌, ◌≢◌, ℕ, ◌*◌, max, Some, IsSome, is_some, List, length}
use Rattle.reg_heap.specs.declared.limits.TheConstants.{NONE}
use Rattle.reg_heap.specs.Heaps.{Heap}
use Rattle.reg_heap.specs.Kinds.{times}
use Rattle.reg_records.specs.RecordCells.{held}
use Rattle.reg_records.specs.KeyNodes.{KeyRecord, key_at, IsPlainKey}
use Rattle.reg_records.specs.declared.nk.KeyFields.{KeyFields}
pub use Rattle.reg_tree.specs.KeyLengths.{raised}

-- a key node after its values changed: their number and list, the time, and the two largest lengths, which only grow
abbrev pub noted : ℕ → ℕ → ℕ → ℕ → ℕ → KeyRecord → KeyRecord
noted count offset name size moment key = record key {
  fields = record key.fields {
    time = moment;
    values = count;
    values_list = offset;
    largest_value_name = max key.fields.largest_value_name (2 * name);
    largest_value_data = max key.fields.largest_value_data size;
  };
}

-- a key node after its subkeys changed: their number and list, the time, and the largest length of a name, which only grows
abbrev pub noted_subkeys : ℕ → ℕ → ℕ → ℕ → KeyRecord → KeyRecord
noted_subkeys count offset name moment key = record key {
  fields = record key.fields {
    time = moment;
    subkeys = count;
    subkeys_list = offset;
    largest_subkey_name = raised key.fields.largest_subkey_name (2 * name);
  };
}

-- a key node after its key was described anew: the security that it names, and the time
abbrev pub noted_security : ℕ → ℕ → KeyRecord → KeyRecord
noted_security security moment key = record key { fields = record key.fields { time = moment; security = security } }

-- the fixed part of a made key's key node: no marks, a name of one byte a character, no subkeys, values or class
abbrev pub made_fields : ℕ → ℕ → ℕ → KeyFields
made_fields parent security moment = record {
  flags = 32;
  time = moment;
  parent = parent;
  subkeys = 0;
  subkeys_list = NONE;
  values = 0;
  values_list = NONE;
  security = security;
  class = NONE;
  class_length = 0;
  largest_subkey_name = 0;
  largest_subkey_class = 0;
  largest_value_name = 0;
  largest_value_data = 0;
}

-- a key node names a list of so many values
abbrev pub HasList : Heap → ℕ → ℕ → ℕ → Type 0
HasList heap cell count offset = (key : KeyRecord) → key_at heap cell ≡ Some key → (count ≡ key.fields.values) × (offset ≡ key.fields.values_list)

-- a key node names a list of so many subkeys
abbrev pub HasSubkeysList : Heap → ℕ → ℕ → ℕ → Type 0
HasSubkeysList heap cell count offset = (key : KeyRecord) → key_at heap cell ≡ Some key → (count ≡ key.fields.subkeys) × (offset ≡ key.fields.subkeys_list)

-- the same cells are there, and each holds as many bytes
abbrev pub SameSizes : Heap → Heap → Type 0
SameSizes old new = (offset : ℕ) → (is_some (new offset) ≡ is_some (old offset)) × (length (held new offset) ≡ length (held old offset))

-- each cell is still there that is none of these
abbrev pub LeavesOthers : Heap → Heap → List ℕ → Type 0
LeavesOthers old new cells = (offset : ℕ) → IsSome (old offset) → times offset cells ≡ 0 → IsSome (new offset)

-- a change was noted in a key's key node, and no other cell changed
pub record Notes (old new : Heap) (cell : ℕ) (change : KeyRecord → KeyRecord) : Type 0 where
  pub reads : (key : KeyRecord) → key_at old cell ≡ Some key → key_at new cell ≡ Some (change key)
  pub plain : IsPlainKey (held old cell) → IsPlainKey (held new cell)
  pub others : (offset : ℕ) → offset ≢ cell → new offset ≡ old offset
