-- The keys at or below one, the top, in the order of their paths, and which of them are marked.
use Rattle.std.specs.Prelude.{◌≡◌, ℕ, ◌+◌, Bool, true, false, Option, Some, None, IsSome, List, [], ◌∷◌, ◌++◌, length}
use Rattle.std.specs.declared.cmp.Ordering.TheVariants.{Less}
use Rattle.std.specs.FinMap.{get}
use Rattle.reg_heap.specs.Paths.{Path, Tree, path_cmp}
use Rattle.reg_heap.specs.Edits.{is_marked}
use Rattle.reg_arena.specs.Cells.{cell_at}
use Rattle.reg_shape.specs.PathLookup.{key_offset_at}
use Rattle.reg_tree.specs.declared.node.Node.{Node}
use Rattle.reg_tree.specs.TreeKeys.{tree_in}
use Rattle.reg_tree.specs.Internal.TreeInvariant.{IsHere}

-- a key of the tree, which is the top or below it; the node's depth counts the names that lead to it from there
pub record HasTop (bytes : List ℕ) (node : Node) : Type 0 where
  pub here : IsHere bytes node.offset
  pub top : Path
  pub names : Path
  pub parts : here.path ≡ top ++ names
  pub depth : node.depth ≡ length names

-- a node is that of the key right above the one at a path
pub record IsAbove (bytes : List ℕ) (root : ℕ) (path : Path) (node above : Node) : Type 0 where
  pub path_above : Path
  pub name : List ℕ
  pub parts : path ≡ path_above ++ name ∷ []
  pub at : key_offset_at (cell_at bytes) root path_above ≡ Some above.offset
  pub depth : above.depth + 1 ≡ node.depth

-- paths in their order
abbrev pub Precedes : Path → Path → Type 0
Precedes p q = path_cmp p q ≡ Less

-- a node is that of the key behind the one to which these names lead from the top: no key is between
pub record NextKey (bytes : List ℕ) (root : ℕ) (top names : Path) (next : Node) : Type 0 where
  pub names_next : Path
  pub at : key_offset_at (cell_at bytes) root (top ++ names_next) ≡ Some next.offset
  pub depth : next.depth ≡ length names_next
  pub behind : Precedes names names_next
  pub first : (q : Path) → IsSome (get (tree_in bytes root) (top ++ q)) → Precedes names q → Precedes q names_next → ⊥

-- the key behind that one, or none, where it is the last
abbrev pub IsNextKey : List ℕ → ℕ → Path → Path → Option Node → Type 0
IsNextKey bytes root top names None = (q : Path) → IsSome (get (tree_in bytes root) (top ++ q)) → Precedes names q → ⊥
IsNextKey bytes root top names (Some next) = NextKey bytes root top names next

-- whether one of the keys from some names on has mark 0x08
abbrev pub TellsMarks : Tree → Path → Path → Bool → Type 0
TellsMarks tree top names true = (q : Path) × IsSome (get tree (top ++ q)) × (Precedes q names → ⊥) × (is_marked tree (top ++ q) ≡ true)
TellsMarks tree top names false = (q : Path) → IsSome (get tree (top ++ q)) → (Precedes q names → ⊥) → is_marked tree (top ++ q) ≡ false
