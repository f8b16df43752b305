-- The keys of a path made where they are missing (Win32 registry reference, `RegCreateKeyEx`).
use Rattle.std.specs.Prelude.{◌≡◌, ◌≢◌, ◌⊎◌, ◌<◌, ◌≤◌, ℕ, ◌+◌, Option, Some, None, List, [], ◌++◌, map, length}
use Rattle.reg_names.specs.declared.TheConstants.{PATH_LIMIT}
use Rattle.reg_names.specs.Names.{folded}
use Rattle.reg_heap.specs.declared.limits.TheConstants.{MADE_LIMIT, SUBKEYS_LIMIT}
use Rattle.reg_heap.specs.Paths.{Path, Tree, children_of}
use Rattle.reg_heap.specs.Edits.{with_keys, missing, last_there}
use Rattle.reg_heap.specs.Kinds.{times}
use Rattle.reg_arena.specs.Cells.{cell_at}
use Rattle.reg_shape.specs.Nodes.{Node as Shown}
use Rattle.reg_shape.specs.Whole.{descriptor_at}
use Rattle.reg_shape.specs.Internal.Forests.{Branch}
use Rattle.reg_shape.specs.Internal.Shapes.{tree_of}
use Rattle.reg_shape.specs.Internal.Grafts.{IsShape}
use Rattle.reg_shape.specs.PathLookup.{key_offset_at}
use Rattle.reg_tree.specs.declared.node.Node.{Node}
use Rattle.reg_security.specs.Rings.{DescriptorCells}
use Rattle.reg_tree.specs.TreeKeys.{tree_in}
use Rattle.reg_tree.specs.KeyLengths.{with_first_length}
use Rattle.reg_tree.specs.Internal.LengthChanges.{LengthsChange, MadeLengths}
use Rattle.reg_tree.specs.Internal.TreeInvariant.{TreeInvariant, IsHere}
use Rattle.reg_tree.specs.Internal.PathWalks.{Reaches}

-- the tree has the missing ones of the keys that some names lead to from a path on, a node is the last one's, and each key that
-- was there stays where it stands
pub record IsCreated (old new : List ℕ) (root : ℕ) (table : DescriptorCells) (path : Path) (from : Node) (names : List (List ℕ))
    (given : Option (List ℕ)) (moment : ℕ) (made : Node) : Type 0 where
  pub holds : TreeInvariant new root table
  pub tree : tree_in new root ≡ with_keys (tree_in old root) path names given moment
  pub offset : key_offset_at (cell_at new) root (path ++ map folded names) ≡ Some made.offset
  pub depth : made.depth ≡ from.depth + length names
  pub keeps : (q : Path) (o : ℕ) → key_offset_at (cell_at old) root q ≡ Some o → key_offset_at (cell_at new) root q ≡ Some o
  pub lengths : LengthsChange (cell_at old) (cell_at new) root (last_there (tree_in old root) path names)
      (with_first_length (missing (tree_in old root) path names))
  pub noted : MadeLengths (cell_at new) root (last_there (tree_in old root) path names) (missing (tree_in old root) path names)

-- keys of some names were made from the one at a path on, each with its parent's descriptor; some cells are left, whatever finds the
-- securities of the ring, which describe what they did
pub record IsGrownAll (old new : List ℕ) (root : ℕ) (path : Path) (names : List (List ℕ)) (moment : ℕ) (ring last : List ℕ) (from made : Node) : Type 0 where
  pub now : Branch Shown
  pub shape : IsShape (cell_at new) root now ring last
  pub tree : tree_of (cell_at new) now ≡ with_keys (tree_in old root) path names None moment
  pub offset : key_offset_at (cell_at new) root (path ++ map folded names) ≡ Some made.offset
  pub depth : made.depth ≡ from.depth + length names
  pub keeps : (q : Path) (o : ℕ) → key_offset_at (cell_at old) root q ≡ Some o → key_offset_at (cell_at new) root q ≡ Some o
  pub lengths : LengthsChange (cell_at old) (cell_at new) root (last_there (tree_in old root) path names)
      (with_first_length (missing (tree_in old root) path names))
  pub noted : MadeLengths (cell_at new) root (last_there (tree_in old root) path names) (missing (tree_in old root) path names)
  pub described : (z : ℕ) → 0 < times z ring → descriptor_at (cell_at new) z ≡ descriptor_at (cell_at old) z

-- one of the keys is missing, and they would be too many
pub record AreTooMany (t : Tree) (p : Path) (names : List (List ℕ)) : Type 0 where
  pub some : missing t p names ≢ []
  pub many : (MADE_LIMIT < length (missing t p names)) ⊎ ((PATH_LIMIT < length p + length names) ⊎
      (SUBKEYS_LIMIT ≤ length (children_of t (last_there t p names))))

-- a path from a node, which is a key's of the tree, leads to a key, behind which its names are missing
pub record LeadsTo (bytes : List ℕ) (from : Node) (path : List ℕ) (node : Node) (rest : List ℕ) : Type 0 where
  pub here : IsHere bytes from.offset
  pub depth : from.depth ≡ length here.path
  pub reaches : Reaches (cell_at bytes) from path node rest
