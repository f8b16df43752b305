-- A key taken out of its parent's subkeys, its cells given up, and the tree without it.
use Rattle.std.specs.Prelude.{◌≡◌, ◌≢◌, ℕ, ◌<◌, ◌≤◌, false, List, [], length, get_or, Some}
use Rattle.reg_heap.specs.Paths.{Path, children_of}
use Rattle.reg_heap.specs.Heaps.{Heap, allocated}
use Rattle.reg_heap.specs.Kinds.{owned}
use Rattle.reg_heap.specs.Kinds.Kind.{Class}
use Rattle.reg_shape.specs.Readings.{Reading}
use Rattle.reg_heap.specs.Edits.{without_key, without_tree, emptied, is_within, is_under}
use Rattle.reg_arena.specs.Cells.{cell_at}
use Rattle.reg_records.specs.declared.nk.KeyFields.{KeyFields}
use Rattle.reg_records.specs.KeyNodes.{KeyRecord, key_at}
use Rattle.reg_records.specs.SubkeyLists.{Entry}
use Rattle.reg_records.specs.BigData.{if_any}
use Rattle.reg_shape.specs.Nodes.{Node, pieces_at, look}
use Rattle.reg_shape.specs.Written.{AreWritten}
use Rattle.reg_shape.specs.PathLookup.{key_offset_at}
use Rattle.reg_index.specs.Subkeys.{AreSubkeys, Moves, own, without}
use Rattle.reg_tree.specs.Internal.KeyNodeChanges.{Notes, noted_subkeys}
use Rattle.reg_tree.specs.Internal.TreeInvariant.{TreeInvariant, IsHere}
use Rattle.reg_security.specs.Rings.{DescriptorCells}
use Rattle.reg_tree.specs.TreeKeys.{tree_in}

-- a key is the subkey at an index of another, whose key node and subkeys are these
pub record IsListed (heap : Heap) (parent key : ℕ) (above : KeyRecord) (entries : List Entry) (index : ℕ) : Type 0 where
  pub reads : key_at heap parent ≡ Some above
  pub subkeys : AreSubkeys heap above.fields.subkeys above.fields.subkeys_list entries
  pub within : index < length entries
  pub offset : (get_or entries index (record { offset = 0; hint = 0 })).offset ≡ key

-- the subkey at an index was taken out of a key's list, and then that was noted in its key node, with the time
pub record IsUnlinked (old new : Heap) (parent : ℕ) (above : KeyRecord) (entries : List Entry) (index moment : ℕ) : Type 0 where
  pub mid : Heap
  pub count : ℕ
  pub list : ℕ
  pub subkeys : AreSubkeys mid count list (without index entries)
  pub moves : Moves old mid (own old above.fields.subkeys above.fields.subkeys_list) (own mid count list)
  pub notes : Notes mid new parent (noted_subkeys count list 0 moment)

-- a key's class
abbrev pub class_at : KeyFields → Reading (List ℕ)
class_at fields = pieces_at (if_any Class fields.class_length fields.class)

-- a key reads, its own cells are allocated and each is met once, and its values are as they are written
pub record IsSole (heap : Heap) (key : ℕ) : Type 0 where
  pub node : Node
  pub reads : look heap key ≡ Some node
  pub once : (offset : ℕ) → owned offset node.cells ≤ allocated heap offset
  pub values : AreWritten heap node.key.fields.values node.key.fields.values_list node.values

-- the key at a path was deleted, and nothing else of the tree changed but the time of the key above; each other key stays where it
-- stands; this table finds the securities that are used now
pub record IsDeleted (old new : List ℕ) (root : ℕ) (table : DescriptorCells) (path : Path) (moment : ℕ) : Type 0 where
  pub holds : TreeInvariant new root table
  pub tree : tree_in new root ≡ without_key (tree_in old root) path moment
  pub offsets : (other : Path) → other ≢ path → key_offset_at (cell_at new) root other ≡ key_offset_at (cell_at old) root other

-- a key that isn't the root, and has no subkeys
abbrev pub IsLone : (bytes : List ℕ) → (key : ℕ) → IsHere bytes key → Type 0
IsLone bytes key t = (t.path ≢ []) × (children_of (tree_in bytes t.root) t.path ≡ [])

-- the key at a path was deleted with all keys below it, and nothing else of the tree changed but the time of the key above; each
-- other key stays where it stands
pub record IsPruned (old new : List ℕ) (root : ℕ) (table : DescriptorCells) (path : Path) (moment : ℕ) : Type 0 where
  pub holds : TreeInvariant new root table
  pub tree : tree_in new root ≡ without_tree (tree_in old root) path moment
  pub offsets : (other : Path) → is_within path other ≡ false → key_offset_at (cell_at new) root other ≡ key_offset_at (cell_at old) root other

-- all keys below the one at a path were deleted, and its values, and nothing else of the tree changed but its time; it and each other
-- key stay where they stand
pub record IsEmptied (old new : List ℕ) (root : ℕ) (table : DescriptorCells) (path : Path) (moment : ℕ) : Type 0 where
  pub holds : TreeInvariant new root table
  pub tree : tree_in new root ≡ emptied (tree_in old root) path moment
  pub offsets : (other : Path) → is_under path other ≡ false → key_offset_at (cell_at new) root other ≡ key_offset_at (cell_at old) root other
