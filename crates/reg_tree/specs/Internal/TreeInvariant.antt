-- What is true of every tree's cells.
use Rattle.std.specs.Prelude.{◌≡◌, ◌<◌, ℕ, Some, List, [], length}
use Rattle.std.specs.FinMap.{get}
use Rattle.reg_shape.specs.Internal.Forests.{Branch}
use Rattle.reg_heap.specs.Paths.{Path, Tree, Rec}
use Rattle.reg_heap.specs.Edits.{edited}
use Rattle.reg_arena.specs.Cells.{cell_at}
use Rattle.reg_shape.specs.Nodes.{Node}
use Rattle.reg_shape.specs.Internal.Grafts.{IsShape}
use Rattle.reg_shape.specs.PathLookup.{key_offset_at}
use Rattle.reg_security.specs.Rings.{DescriptorCells, Finds}
use Rattle.reg_tree.specs.TreeKeys.{tree_in}

-- no class is longer than a length field of 16 bits can say. That is no matter of the cells: they hold lists of numbers, which nothing
-- here keeps below 256
pub record HasShortClasses (t : Tree) : Type 0 where
  pub short : (p : Path) (r : Rec) → get t p ≡ Some r → length r.class < 65536

-- the keys stand in the cells, and have all of them; a table finds just the securities that they use; and their classes are short
pub record TreeInvariant (bytes : List ℕ) (root : ℕ) (table : DescriptorCells) : Type 0 where
  pub keys : Branch Node
  pub ring : List ℕ
  pub shape : IsShape (cell_at bytes) root keys ring []
  pub finds : Finds table (cell_at bytes) ring
  pub classes : HasShortClasses (tree_in bytes root)

-- a key of the tree, and its path
pub record IsHere (bytes : List ℕ) (key : ℕ) : Type 0 where
  pub root : ℕ
  pub table : DescriptorCells
  pub path : Path
  pub holds : TreeInvariant bytes root table
  pub at : key_offset_at (cell_at bytes) root path ≡ Some key

-- the key at a path was changed so, and nothing else of the tree; each key stays where it stands
pub record IsChanged (old new : List ℕ) (root : ℕ) (table : DescriptorCells) (path : Path) (f : Rec → Rec) : Type 0 where
  pub holds : TreeInvariant new root table
  pub tree : tree_in new root ≡ edited (tree_in old root) path f
  pub offsets : (p : Path) → key_offset_at (cell_at new) root p ≡ key_offset_at (cell_at old) root p
