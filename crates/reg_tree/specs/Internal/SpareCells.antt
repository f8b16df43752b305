-- Keys made one after another, in cells that were carved for them before.
use Rattle.std.specs.Prelude.{◌≡◌, ℕ, ◌+◌, ◌-◌, ◌<◌, ◌≤◌, ⊤, cond, Option, Some, None, List, [], ◌∷◌, ◌++◌, map, length}
use Rattle.std.specs.Ordering.{eq_by_cmp}
use Rattle.reg_names.specs.declared.TheConstants.{PATH_LIMIT}
use Rattle.reg_names.specs.Names.{folded}
use Rattle.reg_heap.specs.declared.limits.TheConstants.{DESCRIPTOR_LIMIT, SUBKEYS_LIMIT}
use Rattle.reg_heap.specs.Paths.{Path, Tree, path_cmp}
use Rattle.reg_heap.specs.Heaps.{Heap, CellFrame}
use Rattle.reg_heap.specs.Kinds.{times}
use Rattle.reg_heap.specs.Edits.{child_path, with_key, with_keys}
use Rattle.reg_shape.specs.Internal.Forests.{Branch}
use Rattle.reg_arena.specs.Cells.{cell_at}
use Rattle.reg_arena.specs.NewCells.{cell_size}
use Rattle.reg_records.specs.KeyNodes.{KeyRecord, key_at}
use Rattle.reg_shape.specs.Nodes.{Node}
use Rattle.reg_shape.specs.Internal.Shapes.{tree_of}
use Rattle.reg_shape.specs.Internal.Grafts.{IsShape}
use Rattle.reg_shape.specs.Whole.{descriptor_at}
use Rattle.reg_shape.specs.PathLookup.{key_offset_at, subkey_named}
use Rattle.reg_records.specs.RecordCells.{HasRoom, held}
use Rattle.reg_index.specs.declared.Place.{Place}
use Rattle.reg_index.specs.declared.IndexCells.{IndexCells}
use Rattle.reg_index.specs.Subkeys.{IsReady, each_of}
use Rattle.reg_tree.specs.declared.node.Node.{Node as TreeNode}
pub use Rattle.reg_tree.specs.CellSizes.{first_cells, first_place, planned, planned_sizes, key_size, own_sizes, sizes_of}
use Rattle.reg_tree.specs.KeyLengths.{lengths_at, no_lengths, with_first_length}
use Rattle.reg_tree.specs.Internal.LengthChanges.{LengthsChange, MadeLengths, WhichLengths}

-- a key of a tree whose keys have all cells but those that are spare
pub record IsGrowing (bytes : List ℕ) (key : ℕ) (spare : List ℕ) : Type 0 where
  pub root : ℕ
  pub path : Path
  pub keys : Branch Node
  pub ring : List ℕ
  pub shape : IsShape (cell_at bytes) root keys ring spare
  pub at : key_offset_at (cell_at bytes) root path ≡ Some key

-- the keys stand as they stood, of the same securities, and spell this tree; each key stays where it stands, and so do the cells that are
-- spare then
pub record StillStand (old new : Heap) (root : ℕ) (ring left : List ℕ) (tree : Tree) : Type 0 where
  pub now : Branch Node
  pub shape : IsShape new root now ring left
  pub spells : tree_of new now ≡ tree
  pub offsets : (q : Path) → key_offset_at new root q ≡ key_offset_at old root q
  pub described : (z : ℕ) → 0 < times z ring → descriptor_at new z ≡ descriptor_at old z
  pub spare : (z : ℕ) → 0 < times z left → new z ≡ old z

-- a key of a name may be made below it: none of that name is there, the path has room, and there are fewer than 60,000 subkeys
pub record MayGrow (bytes : List ℕ) (key : ℕ) (spare : List ℕ) (name : List ℕ) : Type 0 where
  pub growing : IsGrowing bytes key spare
  pub missing : subkey_named (cell_at bytes) (folded name) key ≡ None
  pub deep : length growing.path < PATH_LIMIT
  pub few : (k : KeyRecord) → key_at (cell_at bytes) key ≡ Some k → k.fields.subkeys < SUBKEYS_LIMIT

-- a key of a name was made below the one at a path, at an offset; the tree has it, each other key stays where it stands, and so
-- do the spare cells that are left; the key made has no subkeys
pub record Grows (old new : Heap) (root : ℕ) (path : Path) (keys : Branch Node) (ring : List ℕ) (made : ℕ) (left name : List ℕ)
    (moment : ℕ) : Type 0 where
  pub now : Branch Node
  pub shape : IsShape new root now ring left
  pub tree : tree_of new now ≡ with_key (tree_of old keys) path name None moment
  pub offsets : (q : Path) → key_offset_at new root q ≡ cond (eq_by_cmp path_cmp q (child_path path name)) (Some made) (key_offset_at old root q)
  pub spare : (z : ℕ) → 0 < times z left → new z ≡ old z
  pub childless : (x : List ℕ) → subkey_named new x made ≡ None
  pub unlisted : planned new made first_place ≡ first_cells
  pub none : (k : KeyRecord) → key_at new made ≡ Some k → k.fields.subkeys ≡ 0
  pub lengths : (q : Path) (o : ℕ) → key_offset_at old root q ≡ Some o → key_offset_at new root q ≡ Some o →
      WhichLengths old new path (with_first_length (name ∷ [])) q o
  pub fresh : lengths_at new made ≡ Some no_lengths
  pub described : (z : ℕ) → 0 < times z ring → descriptor_at new z ≡ descriptor_at old z

-- cells are of these sizes or larger, one by one, the size field counted
abbrev pub HaveSizes : Heap → List ℕ → List ℕ → Type 0
HaveSizes heap [] [] = ⊤
HaveSizes heap [] (size ∷ sizes) = ⊥
HaveSizes heap (cell ∷ cells) [] = ⊥
HaveSizes heap (cell ∷ cells) (size ∷ sizes) = HasRoom heap cell (size - 4) × HaveSizes heap cells sizes

-- the spare cells begin with those of one key: those that its parent's subkeys take, as they are planned, and its own, of these sizes;
-- what holds of those that are left is left open
pub record IsNext (heap : Heap) (plan : IndexCells) (sizes spare : List ℕ) (Rest : List ℕ → Type 0) : Type 0 where
  pub cells : IndexCells
  pub own : List ℕ
  pub left : List ℕ
  pub spare_is : spare ≡ each_of cells ++ (own ++ left)
  pub ready : IsReady heap plan cells
  pub room : HaveSizes heap own sizes
  pub rest : Rest left

-- the spare cells are those that keys take, one below the other, each with own cells of its sizes, and then some that are left; each
-- key but the first begins a list
abbrev pub AreReady : Heap → List ℕ → IndexCells → List (List ℕ) → List ℕ → Type 0
AreReady heap left plan [] spare = spare ≡ left
AreReady heap left plan (sizes ∷ more) spare = IsNext heap plan sizes spare (AreReady heap left first_cells more)

-- keys of these names may be made one below the other, from a node on, the first at a place, in the spare cells, of which some are left
-- then
pub record MayGrowAll (bytes : List ℕ) (from : TreeNode) (names : List (List ℕ)) (place : Place) (left spare : List ℕ) : Type 0 where
  pub growing : IsGrowing bytes from.offset spare
  pub missing : (name : List ℕ) (others : List (List ℕ)) → names ≡ name ∷ others → subkey_named (cell_at bytes) (folded name) from.offset ≡ None
  pub deep : length growing.path + length names ≤ PATH_LIMIT
  pub few : (k : KeyRecord) → key_at (cell_at bytes) from.offset ≡ Some k → k.fields.subkeys < SUBKEYS_LIMIT
  pub ready : AreReady (cell_at bytes) left (planned (cell_at bytes) from.offset place) (map own_sizes names) spare

-- keys of these names were made one below the other, below the one at a path; each other key stays where it stands, and so do the
-- spare cells that are left
pub record GrowsAll (old new : Heap) (root : ℕ) (path : Path) (keys : Branch Node) (ring left : List ℕ) (from made : TreeNode)
    (names : List (List ℕ)) (moment : ℕ) : Type 0 where
  pub now : Branch Node
  pub shape : IsShape new root now ring left
  pub spare : (z : ℕ) → 0 < times z left → new z ≡ old z
  pub tree : tree_of new now ≡ with_keys (tree_of old keys) path names None moment
  pub offset : key_offset_at new root (path ++ map folded names) ≡ Some made.offset
  pub depth : made.depth ≡ from.depth + length names
  pub keeps : (q : Path) (o : ℕ) → key_offset_at old root q ≡ Some o → key_offset_at new root q ≡ Some o
  pub lengths : LengthsChange old new root path (with_first_length names)
  pub noted : MadeLengths new root path names
  pub described : (z : ℕ) → 0 < times z ring → descriptor_at new z ≡ descriptor_at old z

-- the cells that keys of these names take below a key, the first at a place, and behind them cells of more sizes, are new, each once, in order and of their
-- sizes, and no other cell changed
pub record IsSpared (old new : List ℕ) (key : ℕ) (place : Place) (names : List (List ℕ)) (more left spare : List ℕ) : Type 0 where
  pub come : CellFrame (cell_at old) (cell_at new) (λ z. 0) (λ z. times z spare)
  pub sizes : map (λ z. length (held (cell_at new) z) + 4) spare ≡ sizes_of (planned (cell_at old) key place) (map own_sizes names) ++ more
  pub ready : AreReady (cell_at new) left (planned (cell_at old) key place) (map own_sizes names) spare
  pub others : HaveSizes (cell_at new) left more

-- the size of the cell that a class takes, or none
abbrev pub IsClassSize : Option ℕ → Type 0
IsClassSize None = ⊤
IsClassSize (Some size) = (long : ℕ) × (long < 65536) × (size ≡ cell_size long)

-- the size of the cell that a descriptor takes, or none
abbrev pub IsSecuritySize : Option ℕ → Type 0
IsSecuritySize None = ⊤
IsSecuritySize (Some size) = (long : ℕ) × (long ≤ DESCRIPTOR_LIMIT) × (size ≡ cell_size (20 + long))
