-- Where a name belongs among a key's subkeys (Suhanov, Windows registry file format specification, "Subkeys list").
use Rattle.std.specs.Prelude.{◌≡◌, ℕ, Some, Err, List, ◌∷◌}
use Rattle.reg_names.specs.Names.{folded}
use Rattle.reg_heap.specs.Heaps.{Heap}
use Rattle.reg_records.specs.KeyNodes.{KeyRecord, key_at}
use Rattle.reg_records.specs.SubkeyLists.{Entry}
use Rattle.reg_index.specs.declared.Place.{Place}
use Rattle.reg_index.specs.Subkeys.{AreSubkeys, IsIndexFor, IsPlaceIn, flat, index_of, names_in}

-- a name belongs at a place among the subkeys of a key, of which none has it; between two lists it belongs in either
abbrev pub BelongsAt : Heap → ℕ → List ℕ → Place → Type 0
BelongsAt heap key name place = (record_is : KeyRecord) → key_at heap key ≡ Some record_is →
    IsPlaceIn (index_of heap record_is.fields.subkeys record_is.fields.subkeys_list) place
    × ((entries : List Entry) → AreSubkeys heap record_is.fields.subkeys record_is.fields.subkeys_list entries →
    IsIndexFor (names_in heap entries) (folded name) (Err (flat heap record_is.fields.subkeys record_is.fields.subkeys_list place)))

-- the first of some names does, where there are some
abbrev pub BelongsFirst : Heap → ℕ → List (List ℕ) → Place → Type 0
BelongsFirst heap key names place = (name : List ℕ) (others : List (List ℕ)) → names ≡ name ∷ others → BelongsAt heap key name place
