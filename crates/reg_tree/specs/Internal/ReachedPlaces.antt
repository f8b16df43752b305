-- Where a key stands among its parent's subkeys, and where a name belongs that none of them has.
use Rattle.std.specs.Prelude.{◌≡◌, ◌≢◌, ℕ, ◌≤◌, Option, Some, None, Result, Ok, Err, List, [], length}
use Rattle.reg_names.specs.Names.{folded, path_of}
use Rattle.reg_heap.specs.Heaps.{Heap}
use Rattle.reg_heap.specs.Paths.{Path}
use Rattle.reg_records.specs.KeyNodes.{KeyRecord, key_at}
use Rattle.reg_records.specs.SubkeyLists.{Entry}
use Rattle.reg_shape.specs.PathLookup.{subkey_named}
use Rattle.reg_index.specs.declared.Place.{Place}
use Rattle.reg_index.specs.Subkeys.{StandsIn, flat, index_of}
use Rattle.reg_index.specs.declared.PlacedKey.{PlacedKey}
use Rattle.reg_tree.specs.declared.node.Node.{Node}
use Rattle.reg_tree.specs.declared.node.Subkey.{Subkey}
use Rattle.reg_tree.specs.CellSizes.{first_place}
use Rattle.reg_tree.specs.Internal.KeyDeletion.{IsListed}
use Rattle.reg_tree.specs.Internal.PathWalks.{IsSubkey}
pub use Rattle.reg_tree.specs.SubkeyPlaces.{BelongsAt, BelongsFirst}

-- a place among the subkeys of a key, where one stands
abbrev pub IsPlaceOf : Heap → ℕ → Place → Type 0
IsPlaceOf heap key place = (record_is : KeyRecord) → key_at heap key ≡ Some record_is →
    StandsIn (index_of heap record_is.fields.subkeys record_is.fields.subkeys_list) place

-- as an index among all of them
abbrev pub index_by : Heap → Place → Option KeyRecord → ℕ
index_by heap place None = 0
index_by heap place (Some k) = flat heap k.fields.subkeys k.fields.subkeys_list place

abbrev pub place_index : Heap → ℕ → Place → ℕ
place_index heap key place = index_by heap place (key_at heap key)

-- a place at which the subkey of an index stands
pub record IsPlaceAt (heap : Heap) (key index : ℕ) (place : Place) : Type 0 where
  pub stands : IsPlaceOf heap key place
  pub index_is : place_index heap key place ≡ index

-- the key at an index among those below the one at a path, whose paths these are, and where it stands; or none where there are not so
-- many
abbrev pub IsPlacedSubkey : Heap → ℕ → Path → List Path → Node → ℕ → Option Subkey → Type 0
IsPlacedSubkey heap root path paths node index None = length paths ≤ index
IsPlacedSubkey heap root path paths node index (Some subkey) =
    IsSubkey heap root path paths node index (Some subkey.node) × IsPlaceAt heap node.offset index subkey.place

-- a key is the subkey at a place of the key that its key node names as its parent
pub record StandsAt (heap : Heap) (key : ℕ) (place : Place) : Type 0 where
  pub record_is : KeyRecord
  pub above : KeyRecord
  pub entries : List Entry
  pub reads : key_at heap key ≡ Some record_is
  pub listed : IsListed heap record_is.fields.parent key above entries (flat heap above.fields.subkeys above.fields.subkeys_list place)
  pub stands : StandsIn (index_of heap above.fields.subkeys above.fields.subkeys_list) place

-- the key of a name right below a key, and where it stands; or there is none, and the name belongs at a place
abbrev pub IsChild : Heap → ℕ → List ℕ → Result PlacedKey Place → Type 0
IsChild heap key name (Ok child) = (Some child.key ≡ subkey_named heap (folded name) key) × StandsAt heap child.key child.place
IsChild heap key name (Err place) = (None ≡ subkey_named heap (folded name) key) × BelongsAt heap key name place

-- what the place of a path is that was walked to a key, with a path left behind it: where the first name left belongs among the key's
-- subkeys; where none is left, where the key stands among its parent's; and the first of an empty path
pub record IsPlace (heap : Heap) (path : List ℕ) (key : ℕ) (rest : List ℕ) (place : Place) : Type 0 where
  pub belongs : BelongsFirst heap key (path_of rest) place
  pub stands : path_of rest ≡ [] → path_of path ≢ [] → StandsAt heap key place
  pub none : path_of path ≡ [] → place ≡ first_place
