-- A hive's keys as they are seen from above: the finite map that its cells spell.
use Rattle.std.specs.Prelude.{◌≡◌, ◌≢◌, ◌↔◌, ◌<◌, ◌≤◌, ◌++◌, true, map, ℕ, List, [], length, Option, Some, None, IsSome, unwrap_or, refl}
use Rattle.std.specs.Option.{option_and_then}
use Rattle.std.specs.Coded.{Coded, code_by, coded×, coded_ℕ}
use Rattle.std.specs.FinMap.{empty, get}
use Rattle.reg_names.specs.declared.TheConstants.{PATH_LIMIT}
use Rattle.reg_names.specs.Names.{folded}
use Rattle.reg_heap.specs.Edits.{with_keys, missing}
use Rattle.reg_heap.specs.declared.marks.TheConstants.{NO_DELETE}
use Rattle.reg_heap.specs.Paths.{Path, Tree, Rec, coded_bytes, coded_tree}
use Rattle.reg_arena.specs.declared.Cell.{Cell}
use Rattle.reg_arena.specs.Arena.{Bins, heap_of}
use Rattle.reg_arena.specs.Cells.{cells_of, cell_at}
use Rattle.reg_shape.specs.Spelt.{spelt}
use Rattle.reg_shape.specs.Whole.{IsWhole}
use Rattle.reg_shape.specs.PathLookup.{key_offset_at}
use Rattle.reg_tree.specs.declared.node.Node.{Node}
use Rattle.reg_tree.specs.declared.node.Created.{Created}

-- the bins, the root's cell, and the finite map from paths to keys
pub record Keys : Type 0 where
  pub bins : Bins
  pub root : ℕ
  pub tree : Tree

abbrev pub coded_bins : Coded Bins
coded_bins = code_by (List ℕ × List ℕ) (coded× coded_bytes coded_bytes) (λ b. (b.bytes, b.heads)) (λ p. record { bytes = p.0; heads = p.1 }) (λ _. refl)

abbrev pub coded_keys : Coded Keys
coded_keys =
    code_by (Bins × (ℕ × Tree)) (coded× coded_bins (coded× coded_ℕ coded_tree)) (λ k. (k.bins, (k.root, k.tree)))
    (λ p. record { bins = p.0; root = p.1.0; tree = p.1.1 }) (λ _. refl)

-- the tree that the records in some bytes spell, with as much fuel as there are cells
unfoldable pub tree_in : List ℕ → ℕ → Tree
tree_in bytes root = unwrap_or (option_and_then (λ (cells : List Cell). spelt (length cells) (cell_at bytes) root) (cells_of bytes)) empty

-- the cells fill the bins; each that is allocated is reached from the root exactly as often as its references say; and the
-- records spell this tree
pub record IsWholeTree (bytes : List ℕ) (root : ℕ) (tree : Tree) : Type 0 where
  pub cells : List Cell
  pub cells_are : cells_of bytes ≡ Some cells
  pub whole : IsWhole (cell_at bytes) (length cells) root
  pub spells : spelt (length cells) (cell_at bytes) root ≡ Some tree

-- the hive in these bytes is whole, with this ring of securities, in its order; and no class is longer than a length field of 16 bits can
-- say, which the cells, as lists of numbers, leave open
pub record IsWholeWith (bytes : List ℕ) (root : ℕ) (ring : List ℕ) : Type 0 where
  pub fuel : ℕ
  pub whole : IsWhole (cell_at bytes) fuel root
  pub ring_is : whole.ring ≡ ring
  pub short : (p : Path) (r : Rec) → get (tree_in bytes root) p ≡ Some r → length r.class < 65536

-- the key that a new hive's root is
abbrev pub made_root : List ℕ → List ℕ → ℕ → Rec
made_root name descriptor moment = record { name = name; marks = NO_DELETE; class = []; descriptor = descriptor; time = moment; values = [] }

-- a node is that of the key at a path: it has the offset of the key node at the end of the path, and the path's length
pub record IsAt (keys : Keys) (path : Path) (node : Node) : Type 0 where
  pub offset : key_offset_at (heap_of keys.bins) keys.root path ≡ Some node.offset
  pub depth : node.depth ≡ length path

-- a node is that of a key
abbrev pub IsThere : Keys → Node → Type 0
IsThere keys node = (path : Path) × IsAt keys path node

-- what is at a path: a key with its node, or none
abbrev pub IsResolved : Keys → Path → Option Node → Type 0
IsResolved keys path None = get keys.tree path ≡ None
IsResolved keys path (Some node) = IsAt keys path node × IsSome (get keys.tree path)

-- each node stays that of the key at its path
abbrev pub KeepsNodes : Keys → Keys → Type 0
KeepsNodes old new = (path : Path) → (node : Node) → IsAt old path node → IsAt new path node

-- the keys of those names that were missing from the key at a path on were made: the tree is the map's own step, `made` has the
-- last key and whether one was made, that key is no deeper than 512 names, and each node stays that of the key at its path; the last
-- one made has the descriptor that is given, if one is
pub record MakesKeys (old new : Keys) (path : Path) (names : List (List ℕ)) (given : Option (List ℕ)) (moment : ℕ) (made : Created) : Type 0 where
  pub tree : new.tree ≡ with_keys old.tree path names given moment
  pub last : IsAt new (path ++ map folded names) made.node
  pub is_new : (made.is_new ≡ true) ↔ (missing old.tree path names ≢ [])
  pub shallow : made.node.depth ≤ PATH_LIMIT
  pub nodes : KeepsNodes old new
