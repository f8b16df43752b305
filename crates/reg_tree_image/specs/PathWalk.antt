-- The walk of an image along one path: from the root's key node to the key at a path, and to one of its values. Of the records beside
-- only those are read that are passed in looking for a name (Suhanov, Windows registry file format specification, "Key node",
-- "Subkeys list", "Key values list").
use Rattle.std.specs.Prelude.{ℕ, zero, suc, nat_le, Bool, true, false, Option, Some, None, List, [], ◌∷◌, map}
use Rattle.std.specs.Option.{option_map}
use Rattle.std.specs.FinMap.{get}
use Rattle.reg_names.specs.Names.{folded}
use Rattle.reg_heap.specs.declared.limits.TheConstants.{VALUES_LIMIT}
use Rattle.reg_heap.specs.Paths.{Tree, Member}
use Rattle.reg_heap.specs.Heaps.{Heap}
use Rattle.reg_heap.specs.Kinds.Kind.{ValueList}
use Rattle.reg_heap.specs.Members.{same_name, value_named}
use Rattle.reg_records.specs.declared.lists.ListForm.TheVariants.{IndexRoot, IndexLeaf, FastLeaf, HashLeaf}
use Rattle.reg_records.specs.KeyNodes.{KeyRecord}
use Rattle.reg_records.specs.SubkeyLists.{Entry, Form}
use Rattle.reg_records.specs.BigData.{is_inline}
use Rattle.reg_shape.specs.Nodes.{member_of}
use Rattle.reg_tree_image.specs.declared.LoadFault.TheVariants.{Limit}
use Rattle.reg_tree_image.specs.WalkSteps.{Step, ◌>>=◌, ◌>>◌, give, check}
use Rattle.reg_tree_image.specs.LoadingWalk.{named_key, list_from, leaf_from, row_from, named_value, data_by}

-- a key that was come to: its offset, its record and its name; and the offsets of the keys above it, the lowest first
pub record Reached : Type 0 where
  pub offset : ℕ
  pub key : KeyRecord
  pub name : List ℕ
  pub above : List ℕ

-- what was looked for and found, or else what comes next
abbrev pub or_else : {A : Type 0} → Option A → Step (Option A) → Step (Option A)
or_else (Some found) next = give (Some found)
or_else None next = next

-- what was found, taken further
abbrev pub go_on : {A : Type 0} → Option A → (A → Step (Option A)) → Step (Option A)
go_on None next = give None
go_on (Some found) next = next found

-- one of two, by a test
abbrev pub either : {A : Type 0} → Bool → Step A → Step A → Step A
either true this other = this
either false this other = other

module _ (heap : Heap) where
  -- the first of these keys whose name folds as this one
  abbrev pub key_among : List ℕ → List ℕ → List Entry → Step (Option Reached)
  key_among path name [] = give None
  key_among path name (e ∷ entries) = do
    head ← named_key heap path e.offset
    either (same_name head.1 name) (give (Some (record { offset = e.offset; key = head.0; name = head.1; above = path }))) (key_among path name entries)

  -- the lists of an index root, each in turn
  abbrev pub key_in_lists : List ℕ → List ℕ → List Entry → Step (Option Reached)
  key_in_lists path name [] = give None
  key_in_lists path name (e ∷ entries) = do
    list ← leaf_from heap path e.offset
    found ← key_among path name list.entries
    or_else found (key_in_lists path name entries)

  abbrev pub key_as : List ℕ → List ℕ → List Entry → Form → Step (Option Reached)
  key_as path name entries IndexRoot = key_in_lists path name entries
  key_as path name entries IndexLeaf = key_among path name entries
  key_as path name entries FastLeaf = key_among path name entries
  key_as path name entries HashLeaf = key_among path name entries

  -- the subkey of a name, from the number of subkeys and the offset of their list
  abbrev pub subkey_from : List ℕ → List ℕ → ℕ → ℕ → Step (Option Reached)
  subkey_from path name zero offset = give None
  subkey_from path name (suc n) offset = do
    list ← list_from heap path offset
    key_as path name list.entries list.form

  -- the key that these names lead to from a key on
  abbrev pub reached_from : List (List ℕ) → Reached → Step (Option Reached)
  reached_from [] at = give (Some at)
  reached_from (name ∷ names) at = do
    found ← subkey_from (at.offset ∷ at.above) name at.key.fields.subkeys at.key.fields.subkeys_list
    go_on found (reached_from names)

  -- the key at a path of names below the root
  abbrev pub key_of_path : List (List ℕ) → ℕ → Step (Option Reached)
  key_of_path names root = do
    head ← named_key heap [] root
    reached_from names (record { offset = root; key = head.0; name = head.1; above = [] })

module _ (heap : Heap) (minor : ℕ) where
  -- the first of the values at these offsets whose name folds as this one
  abbrev pub value_among : List ℕ → List ℕ → List ℕ → Step (Option Member)
  value_among path name [] = give None
  value_among path name (offset ∷ offsets) = do
    value ← named_value heap path offset
    either (same_name value.1 name) (do
      bytes ← data_by heap minor path (is_inline value.0.fields.size) value.0.fields.size value.0.fields.offset
      give (Some (member_of value.0 bytes)))
        (value_among path name offsets)

  -- a key's value of a name
  abbrev pub value_from : List ℕ → List ℕ → ℕ → ℕ → Step (Option Member)
  value_from path name zero offset = give None
  value_from path name (suc n) offset = do
    check Limit (nat_le (suc n) VALUES_LIMIT)
    row ← row_from heap path ValueList (suc n) offset
    value_among path name row

  -- no key, or a key's value of a name, if it has one
  abbrev pub value_reached : List ℕ → Option Reached → Step (Option (Option Member))
  value_reached name None = give None
  value_reached name (Some at) = do
    value ← value_from (at.offset ∷ at.above) name at.key.fields.values at.key.fields.values_list
    give (Some value)

  -- the value of a name of the key at a path; nothing where there is no such key
  abbrev pub value_of_path : List (List ℕ) → ℕ → List ℕ → Step (Option (Option Member))
  value_of_path names root name = do
    found ← key_of_path heap names root
    value_reached name found

-- what a tree has at a path, under a value's name; nothing where it has no such key
abbrev pub value_in_tree : Tree → List (List ℕ) → List ℕ → Option (Option Member)
value_in_tree tree names name = option_map (λ rec. value_named name rec.values) (get tree (map folded names))
