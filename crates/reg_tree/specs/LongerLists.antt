-- Lists of subkeys that are given room for entries to come (Suhanov, Windows registry file format specification, "Cell", "Key node",
-- "Subkeys list").
use Rattle.std.specs.Prelude.{◌≡◌, ◌<◌, ◌+◌, ◌*◌, ◌==◌, ℕ, cond, Option, Some, None, List, []}
use Rattle.reg_heap.specs.Heaps.{Heap}
use Rattle.reg_arena.specs.Arena.{heap_of}
use Rattle.reg_records.specs.KeyNodes.{KeyRecord, key_at}
use Rattle.reg_records.specs.RecordCells.{HasRoom}
use Rattle.reg_shape.specs.Nodes.{KeyList}
use Rattle.reg_index.specs.Subkeys.{index_of}
use Rattle.reg_index.specs.Lengthening.{last_list, longer_size, wanted}
use Rattle.reg_tree.specs.declared.node.Node.{Node}
use Rattle.reg_tree.specs.BuiltKeys.{TakesCells}
use Rattle.reg_tree.specs.CellSizes.{planned_sizes}
use Rattle.reg_tree.specs.KeyLengths.{KeepsLengths}
use Rattle.reg_tree.specs.TreeKeys.{Keys, KeepsNodes}

-- a list's cell has room for so many entries more, or for 500 in all
abbrev pub HasRoomFor : Heap → KeyList → ℕ → Type 0
HasRoomFor heap list more = HasRoom heap list.offset (4 + 8 * wanted list more)

-- the last list of the subkeys of the key whose key node stands at an offset has room for so many entries more, or for 500 in all; a
-- key without subkeys has no list
pub record HasSubkeyRoom (heap : Heap) (offset more : ℕ) : Type 0 where
  pub key : KeyRecord
  pub reads : key_at heap offset ≡ Some key
  pub holds : 0 < key.fields.subkeys → HasRoomFor heap (last_list (index_of heap key.fields.subkeys key.fields.subkeys_list)) more

-- the sizes of the cells that it takes to give a key's last list that room: none where it has it, and where there are no subkeys
abbrev pub longer_sizes_by : Heap → ℕ → Option KeyRecord → List ℕ
longer_sizes_by heap more None = []
longer_sizes_by heap more (Some key) =
    cond (key.fields.subkeys == 0) [] (planned_sizes (longer_size heap key.fields.subkeys key.fields.subkeys_list more))

-- and of the key whose key node stands at an offset
unfoldable pub longer_sizes : Heap → ℕ → ℕ → List ℕ
longer_sizes heap offset more = longer_sizes_by heap more (key_at heap offset)

-- the last list of a key's subkeys has room for so many more now, or for 500 in all; the keys, each at its offset, are as they were;
-- cells of those sizes came, and bins only for them
pub record LengthensList (old new : Keys) (node : Node) (more : ℕ) : Type 0 where
  pub tree : new.tree ≡ old.tree
  pub root : new.root ≡ old.root
  pub nodes : KeepsNodes old new
  pub lengths : KeepsLengths old new
  pub room : HasSubkeyRoom (heap_of new.bins) node.offset more
  pub takes : TakesCells old new (longer_sizes (heap_of old.bins) node.offset more)
