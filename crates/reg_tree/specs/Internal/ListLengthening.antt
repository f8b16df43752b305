-- A key's last list of subkeys, moved into another cell.
use Rattle.std.specs.Prelude.{◌≡◌, ◌≤◌, ◌<◌, ◌+◌, ◌*◌, ◌++◌, ℕ, Some, None, IsSome, List, [], ◌∷◌, length}
use Rattle.reg_heap.specs.Heaps.{Heap}
use Rattle.reg_heap.specs.Kinds.{times}
use Rattle.reg_heap.specs.Paths.{Rec}
use Rattle.reg_records.specs.KeyNodes.{KeyRecord, key_at}
use Rattle.reg_records.specs.RecordCells.{HasRoom}
use Rattle.reg_records.specs.SubkeyLists.{Entry}
use Rattle.reg_shape.specs.Nodes.{Index, lists_of}
use Rattle.reg_index.specs.Subkeys.{AreSubkeys, KeepsCells, Moves, index_of, index_under, own}
use Rattle.reg_index.specs.Lengthening.{last_list, last_moved}
use Rattle.reg_tree.specs.Internal.KeyNodeChanges.{Notes, SameSizes}

-- the key is as it was
abbrev pub as_it_was : Rec → Rec
as_it_was r = r

-- a key node whose subkeys are listed elsewhere
abbrev pub listed_at : ℕ → KeyRecord → KeyRecord
listed_at offset key = record key { fields = record key.fields { subkeys_list = offset } }

-- the index that a key node names
abbrev pub its_index : Heap → KeyRecord → Index
its_index heap key = index_of heap key.fields.subkeys key.fields.subkeys_list

-- a key has subkeys, and a cell that holds no key and none of its lists has room for the last of them
pub record IsLengthenable (heap : Heap) (key cell : ℕ) : Type 0 where
  pub record_is : KeyRecord
  pub entries : List Entry
  pub reads : key_at heap key ≡ Some record_is
  pub subkeys : AreSubkeys heap record_is.fields.subkeys record_is.fields.subkeys_list entries
  pub some : 0 < record_is.fields.subkeys
  pub room : HasRoom heap cell (4 + 8 * length (last_list (its_index heap record_is)).list.entries)
  pub bare : key_at heap cell ≡ None
  pub once : (z : ℕ) → times z (own heap record_is.fields.subkeys record_is.fields.subkeys_list ++ cell ∷ []) ≤ 1

-- a key's last list was moved into a cell, and then its key node noted where its subkeys are listed
pub record IsLengthened (old new : Heap) (key cell : ℕ) (record_is : KeyRecord) (entries : List Entry) : Type 0 where
  pub mid : Heap
  pub list : ℕ
  pub subkeys : AreSubkeys mid record_is.fields.subkeys list entries
  pub index : index_of mid record_is.fields.subkeys list ≡
      index_under record_is.fields.subkeys_list (last_moved cell (lists_of (its_index old record_is)))
  pub moves : Moves old mid (own old record_is.fields.subkeys record_is.fields.subkeys_list ++ cell ∷ []) (own mid record_is.fields.subkeys list)
  pub keeps : KeepsCells old mid
  pub stay : IsSome (mid cell)
  pub notes : Notes mid new key (listed_at list)
  pub sizes : SameSizes mid new
