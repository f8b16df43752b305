-- A key's marks and class, as its key node and the one above note them (Suhanov, Windows registry file format specification, "Key node").
use Rattle.std.specs.Prelude.{◌≡◌, ◌≢◌, ◌⊎◌, ℕ, ◌≤◌, ◌+◌, max, bit_and, bit_or, unwrap_or, Option, Some, None, List, [], ◌∷◌, ◌++◌, drop, length}
use Rattle.reg_heap.specs.declared.limits.TheConstants.{NONE}
use Rattle.reg_heap.specs.Heaps.{Heap, CellFrame}
use Rattle.reg_heap.specs.Kinds.{times}
use Rattle.reg_heap.specs.Paths.{Path, Rec}
use Rattle.std.specs.FinMap.{insert}
use Rattle.reg_heap.specs.Edits.{child_path}
use Rattle.reg_arena.specs.Arena.{Bins, heap_of}
use Rattle.reg_arena.specs.Cells.{cell_at}
use Rattle.reg_arena.specs.NewCells.{cell_size}
use Rattle.reg_records.specs.RecordCells.{HasRoom, held}
use Rattle.reg_records.specs.KeyNodes.{KeyRecord, key_at}
use Rattle.reg_shape.specs.Nodes.{Node}
use Rattle.reg_shape.specs.Internal.Forests.{Branch}
use Rattle.reg_shape.specs.Internal.Grafts.{IsShape}
use Rattle.reg_shape.specs.PathLookup.{key_offset_at}
use Rattle.reg_index.specs.Subkeys.{taken}
use Rattle.reg_security.specs.Rings.{DescriptorCells}
use Rattle.reg_tree.specs.declared.build.NewKey.{NewKey}
use Rattle.reg_tree.specs.declared.node.Node.{Node as TreeNode}
use Rattle.reg_tree.specs.BuiltKeys.{built_key}
use Rattle.reg_tree.specs.KeyLengths.{Lengths}
use Rattle.reg_tree.specs.TreeKeys.{tree_in}
use Rattle.reg_tree.specs.Internal.TreeInvariant.{TreeInvariant}

-- a key with other marks and another class
abbrev pub marked : ℕ → List ℕ → Rec → Rec
marked marks class r = record r { marks = marks; class = class }

-- a key node after a key below it got a class of this length: the largest length of a class, which only grows
abbrev pub noted_class : ℕ → KeyRecord → KeyRecord
noted_class size key = record key { fields = record key.fields { largest_subkey_class = max key.fields.largest_subkey_class size } }

-- the larger of what a key notes of the classes right below it and the length of one of them, in bytes
abbrev pub with_class_length : ℕ → Lengths → Lengths
with_class_length size lengths = record lengths { subkey_class = max lengths.subkey_class size }

-- marks beside the flags that are no marks
abbrev pub flags_with : ℕ → ℕ → ℕ
flags_with marks flags = bit_or (bit_and flags 103) marks

-- a key node after its key got marks and a class
abbrev pub noted_marks : ℕ → Option ℕ → ℕ → KeyRecord → KeyRecord
noted_marks marks cell size key =
    record key { fields = record key.fields { flags = flags_with marks key.fields.flags; class = unwrap_or cell NONE; class_length = size } }

-- the cell for a class: none for an empty one, and else one that has room for it
abbrev pub IsClassCell : Heap → Option ℕ → List ℕ → Type 0
IsClassCell heap None class = class ≡ []
IsClassCell heap (Some cell) class = (1 ≤ length class) × HasRoom heap cell (length class)

-- a class stands at the start of its cell, if it has one, and no other cell changed
abbrev pub PutsClass : Heap → Heap → Option ℕ → List ℕ → Type 0
PutsClass old new None class = (offset : ℕ) → new offset ≡ old offset
PutsClass old new (Some cell) class =
    (new cell ≡ Some (class ++ drop (length class) (held old cell))) × ((offset : ℕ) → offset ≢ cell → new offset ≡ old offset)

-- the key above the one at a path notes a class of this length or a longer one
pub record IsNotedAbove (heap : Heap) (root : ℕ) (path : Path) (size : ℕ) : Type 0 where
  pub above : Path
  pub name : List ℕ
  pub parts : path ≡ above ++ name ∷ []
  pub offset : ℕ
  pub at : key_offset_at heap root above ≡ Some offset
  pub key : KeyRecord
  pub reads : key_at heap offset ≡ Some key
  pub enough : size ≤ key.fields.largest_subkey_class

-- a class of this length may be the key's at a path, as far as the key above goes, if there is one
abbrev pub MayHaveClass : Heap → ℕ → Path → ℕ → Type 0
MayHaveClass heap root path size = (path ≡ []) ⊎ IsNotedAbove heap root path size

-- a key node of this name has no class
abbrev pub HasNoClass : Heap → ℕ → List ℕ → Type 0
HasNoClass heap offset name = (key : KeyRecord) → key_at heap offset ≡ Some key → (key.name ≡ name) × (key.fields.class_length ≡ 0)

-- a key without a class, of a tree whose keys have all their cells; spare are a cell for its class, where one is needed, and cells that
-- are left
pub record IsMarkable (bytes : List ℕ) (key : ℕ) (name : List ℕ) (cell : Option ℕ) (class left : List ℕ) : Type 0 where
  pub root : ℕ
  pub path : Path
  pub keys : Branch Node
  pub ring : List ℕ
  pub shape : IsShape (cell_at bytes) root keys ring (taken cell ++ left)
  pub at : key_offset_at (cell_at bytes) root path ≡ Some key
  pub cell_is : IsClassCell (cell_at bytes) cell class
  pub bare : HasNoClass (cell_at bytes) key name
  pub above : MayHaveClass (cell_at bytes) root path (length class)

-- the cell that a class takes, if it takes one, was carved, of its size, and no other cell changed
abbrev pub IsCarvedForClass : Bins → Bins → List ℕ → Option ℕ → Type 0
IsCarvedForClass old new class None = (new ≡ old) × (class ≡ [])
IsCarvedForClass old new class (Some cell) = (1 ≤ length class) × CellFrame (heap_of old) (heap_of new) (λ z. 0) (λ z. times z (cell ∷ []))
    × (length (held (heap_of new) cell) + 4 ≡ cell_size (length class))

-- the key that is told was built right below the one at a path, and nothing else of the tree changed; a node is its own, and each other
-- key stays where it stands
pub record IsBuilt (old new : List ℕ) (root : ℕ) (table : DescriptorCells) (path : Path) (key : NewKey) (node : TreeNode) : Type 0 where
  pub holds : TreeInvariant new root table
  pub tree : tree_in new root ≡ insert (tree_in old root) (child_path path key.name.now) (built_key key)
  pub offset : key_offset_at (cell_at new) root (child_path path key.name.now) ≡ Some node.offset
  pub depth : node.depth ≡ length path + 1
  pub keeps : (q : Path) (o : ℕ) → key_offset_at (cell_at old) root q ≡ Some o → key_offset_at (cell_at new) root q ≡ Some o
