-- A descriptor that comes to a key (Win32 registry reference, `RegSetKeySecurity`; Suhanov, Windows registry file format specification,
-- "Key security").
use Rattle.std.specs.Prelude.{◌≡◌, ℕ, ◌+◌, ◌-◌, ◌<◌, ◌≤◌, Option, Some, None, IsSome, IfSome, List, [], ◌∷◌, ◌++◌, length, get_or}
use Rattle.std.specs.FinMap.{get}
use Rattle.reg_heap.specs.Heaps.{Heap, CellFrame, Writes}
use Rattle.reg_heap.specs.Kinds.{times}
use Rattle.reg_heap.specs.Paths.{Path}
use Rattle.reg_heap.specs.Edits.{edited, descriptor_of, with_descriptor}
use Rattle.reg_arena.specs.Arena.{Bins, heap_of}
use Rattle.reg_arena.specs.Cells.{cell_at}
use Rattle.reg_arena.specs.NewCells.{cell_size}
use Rattle.reg_records.specs.RecordCells.{HasRoom, held}
use Rattle.reg_shape.specs.Nodes.{Node}
use Rattle.reg_shape.specs.Whole.{IsRing, descriptor_at}
use Rattle.reg_shape.specs.PathLookup.{key_offset_at}
use Rattle.reg_shape.specs.Internal.Forests.{Branch}
use Rattle.reg_shape.specs.Internal.Shapes.{tree_of}
use Rattle.reg_shape.specs.Internal.Grafts.{IsShape, uses_in}
use Rattle.reg_index.specs.Subkeys.{KeepsCells, taken}
use Rattle.reg_security.specs.Rings.{DescriptorCells, Finds, Expects, cell_of}
use Rattle.reg_tree.specs.declared.node.Node.{Node as TreeNode}
use Rattle.reg_tree.specs.TreeKeys.{tree_in}
use Rattle.reg_tree.specs.KeyLengths.{lengths_at}
use Rattle.reg_tree.specs.Internal.KeyNodeChanges.{LeavesOthers}
use Rattle.reg_tree.specs.Internal.TreeInvariant.{HasShortClasses, TreeInvariant}

-- what a table became that makes ready for a descriptor: nothing changed where it has the descriptor, which takes no cell; else it has
-- room for it, which takes a cell of this size
abbrev pub IsExpected : DescriptorCells → DescriptorCells → List ℕ → Option ℕ → Type 0
IsExpected old new descriptor None = (new ≡ old) × IsSome (cell_of old descriptor)
IsExpected old new descriptor (Some size) = (size ≡ cell_size (20 + length descriptor)) × (cell_of old descriptor ≡ None)
    × ((heap : Heap) (ring : List ℕ) → Finds old heap ring → Expects new heap ring descriptor)

-- the cell that is known of a descriptor, if one is, is that which a table notes for it
abbrev pub IsKnown : DescriptorCells → List ℕ → Option ℕ → Type 0
IsKnown table descriptor known = IfSome known (λ cell. cell_of table descriptor ≡ Some cell)

-- a node, if there is one, is that of a key with this descriptor
abbrev pub IsLike : List ℕ → ℕ → List ℕ → Option TreeNode → Type 0
IsLike bytes root descriptor like = IfSome like (λ node. (q : Path) × (key_offset_at (cell_at bytes) root q ≡ Some node.offset)
    × (descriptor_of (get (tree_in bytes root) q) ≡ descriptor))

-- a table that finds the securities of a ring still does
abbrev pub KeepsFinds : DescriptorCells → DescriptorCells → Type 0
KeepsFinds old new = (heap : Heap) (ring : List ℕ) → Finds old heap ring → Finds new heap ring

-- the cell that a descriptor takes, if it takes one, was carved, of its size, and no other cell changed; the table is ready for it
abbrev pub IsCarvedFor : Bins → Bins → DescriptorCells → DescriptorCells → List ℕ → Option ℕ → Type 0
IsCarvedFor old new before after descriptor None = (new ≡ old) × IsExpected before after descriptor None
IsCarvedFor old new before after descriptor (Some cell) = IsExpected before after descriptor (Some (cell_size (20 + length descriptor)))
    × CellFrame (heap_of old) (heap_of new) (λ z. 0) (λ z. times z (cell ∷ []))
    × (length (held (heap_of new) cell) + 4 ≡ cell_size (20 + length descriptor))

-- the cell for a descriptor: none where the table finds the ring's securities, and one for the descriptor; else one that has room for it
-- where the table expects it
abbrev pub IsPlaced : Heap → List ℕ → DescriptorCells → List ℕ → Option ℕ → Type 0
IsPlaced heap ring table descriptor None = Finds table heap ring × IsSome (cell_of table descriptor)
IsPlaced heap ring table descriptor (Some cell) = Expects table heap ring descriptor × HasRoom heap cell (20 + length descriptor)

-- a key of a tree whose keys have all their cells and short classes, and a cell for a descriptor, where one is needed, is all that
-- is spare
pub record IsDescribable (bytes : List ℕ) (key : ℕ) (table : DescriptorCells) (descriptor : List ℕ) (cell : Option ℕ) : Type 0 where
  pub root : ℕ
  pub path : Path
  pub keys : Branch Node
  pub ring : List ℕ
  pub shape : IsShape (cell_at bytes) root keys ring (taken cell)
  pub at : key_offset_at (cell_at bytes) root path ≡ Some key
  pub placed : IsPlaced (cell_at bytes) ring table descriptor cell
  pub classes : HasShortClasses (tree_of (cell_at bytes) keys)

-- a security has a descriptor for one key more than before: one of the ring, or a new one, in the cell that was for it, where there is
-- such a cell; the others describe the same and are used as often, and no cell beside the ring's and that one changed
pub record Joins (old new : Heap) (ring after : List ℕ) (cell : Option ℕ) (joined : ℕ) (descriptor : List ℕ) : Type 0 where
  pub closed : IsRing new after
  pub members : (z : ℕ) → times z after ≡ times z ring + times z (taken cell)
  pub here : 0 < times joined after
  pub newest : (z : ℕ) → times z (taken cell) ≤ times z (joined ∷ [])
  pub describes : descriptor_at new joined ≡ Some descriptor
  pub used : (z : ℕ) → uses_in new after z ≡ uses_in old ring z + times z (joined ∷ [])
  pub described : (z : ℕ) → 0 < times z ring → descriptor_at new z ≡ descriptor_at old z
  pub frame : Writes old new (taken cell ++ ring)

-- the key at a path has another descriptor, and a moment as its time, and nothing else of the tree changed; each key stays where it
-- stands, with its largest lengths; no cell came, each keeps its size, and each that is no security's of the ring stays
pub record IsDescribed (old new : List ℕ) (root : ℕ) (path : Path) (keys : Branch Node) (ring : List ℕ) (table : DescriptorCells)
    (descriptor : List ℕ) (moment : ℕ) : Type 0 where
  pub holds : TreeInvariant new root table
  pub tree : tree_in new root ≡ edited (tree_of (cell_at old) keys) path (with_descriptor descriptor moment)
  pub offsets : (q : Path) → key_offset_at (cell_at new) root q ≡ key_offset_at (cell_at old) root q
  pub lengths : (q : Path) (o : ℕ) → key_offset_at (cell_at old) root q ≡ Some o → lengths_at (cell_at new) o ≡ lengths_at (cell_at old) o
  pub keeps : KeepsCells (cell_at old) (cell_at new)
  pub leaves : LeavesOthers (cell_at old) (cell_at new) ring

-- of cells that were carved, the last, where one was carved for a descriptor
abbrev pub last_of : Option ℕ → List ℕ → Option ℕ
last_of None cells = None
last_of (Some size) cells = Some (get_or cells (length cells - 1) 0)

-- and the one before it, or else the last, where one was carved for a class
abbrev pub class_of : Option ℕ → Option ℕ → List ℕ → Option ℕ
class_of None more cells = None
class_of (Some size) more cells = Some (get_or cells (length cells - 1 - length (taken more)) 0)
