-- Keys built as they are told, with marks, class, descriptor and time, and the cells that this takes (Suhanov, Windows registry file
-- format specification, "Cell", "Hive bin", "Key node").
use Rattle.std.specs.Prelude.{◌≡◌, ◌<◌, ◌≤◌, ℕ, suc, None, List, [], ◌∷◌, ◌++◌, length}
use Rattle.std.specs.FinMap.{empty, get, insert}
use Rattle.reg_names.specs.declared.TheConstants.{PATH_LIMIT}
use Rattle.reg_heap.specs.declared.limits.TheConstants.{SUBKEYS_LIMIT}
use Rattle.reg_heap.specs.Paths.{Path, Tree, Rec, Member, children_of}
use Rattle.reg_heap.specs.Edits.{child_path}
use Rattle.reg_arena.specs.Arena.{Bins, IsSound, heap_of}
use Rattle.reg_arena.specs.EachCell.{GrowsFor}
use Rattle.reg_arena.specs.NewCells.{cell_size}
use Rattle.reg_values.specs.ValueLists.{KeepsSizes, Makes}
use Rattle.reg_index.specs.declared.Place.{Place}
use Rattle.reg_tree.specs.declared.build.NewKey.{NewKey}
use Rattle.reg_tree.specs.TreeKeys.{Keys, IsWholeTree}
use Rattle.reg_tree.specs.NewHive.{IsNewHive}
use Rattle.reg_tree.specs.CellSizes.{BelongsThere, made_sizes, security_sizes, LacksRoom}

-- the key that is told, with no values
abbrev pub built_key : NewKey → Rec
built_key key =
    record { name = key.name.now; marks = key.marks; class = key.class.now; descriptor = key.descriptor.now; time = key.time; values = [] }

-- a key with these values as all that it has, at a moment
abbrev pub with_values : List Member → ℕ → Rec → Rec
with_values members moment r = record r { time = moment; values = members }

-- the bins are an arena's, and their allocated cells are just those of the tree
pub record AreWhole (keys : Keys) : Type 0 where
  pub sound : IsSound keys.bins.bytes keys.bins.heads
  pub whole : IsWholeTree keys.bins.bytes keys.root keys.tree

-- a key of a name may be built right below the one at a path: there is none, the path has room, and there are fewer than 60,000 subkeys
pub record MayBuild (tree : Tree) (path : Path) (name : List ℕ) : Type 0 where
  pub free : get tree (child_path path name) ≡ None
  pub deep : length path < PATH_LIMIT
  pub few : length (children_of tree path) < SUBKEYS_LIMIT

-- the sizes of the cell that a class takes: none where it is empty
abbrev pub class_sizes : List ℕ → List ℕ
class_sizes [] = []
class_sizes (byte ∷ class) = cell_size (suc (length class)) ∷ []

-- how the bins grew for cells of these sizes: only where no free cell had room for all of them
abbrev pub Grows : Bins → Bins → List ℕ → Type 0
Grows old new sizes = GrowsFor old.bytes new.bytes sizes

-- cells of these sizes came, and bins only for them; the bins are no shorter, and each cell that was there and still is has its size
pub record TakesCells (old new : Keys) (sizes : List ℕ) : Type 0 where
  pub cells : Makes (heap_of old.bins) (heap_of new.bins) sizes
  pub stay : KeepsSizes (heap_of old.bins) (heap_of new.bins)
  pub growth : Grows old.bins new.bins sizes
  pub kept : length old.bins.bytes ≤ length new.bins.bytes

-- a root was built: first as that of a new hive, and then its class's cell came; its key node stays where it stands
pub record BuildsRoot (keys : Keys) (key : Rec) : Type 0 where
  pub bare : Keys
  pub begun : IsNewHive bare key.name key.descriptor key.time
  pub class : TakesCells bare keys (class_sizes key.class)
  pub root : keys.root ≡ bare.root
  pub tree : keys.tree ≡ insert empty [] key

-- the sizes of the cells that a key takes that is built at a place right below the one at a path: those of that one's subkeys, as they
-- are planned, and its key node's; its class's, if it takes one; and its security's, if no key has its descriptor
abbrev pub build_sizes : Keys → Path → Rec → Place → List ℕ
build_sizes keys path key place =
    made_sizes keys path (key.name ∷ []) place ++ (class_sizes key.class ++ security_sizes keys.tree key.descriptor)

-- a key was built right below the one at a path, at its place; the root stays where it stands
pub record BuildsKey (old new : Keys) (path : Path) (key : Rec) : Type 0 where
  pub place : Place
  pub belongs : BelongsThere old path (key.name ∷ []) place
  pub takes : TakesCells old new (build_sizes old path key place)
  pub root : new.root ≡ old.root
  pub tree : new.tree ≡ insert old.tree (child_path path key.name) key

-- the bins have no room for the cells of a key that is built right below the one at a path
pub record LacksKeyRoom (old : Keys) (path : Path) (key : Rec) : Type 0 where
  pub place : Place
  pub belongs : BelongsThere old path (key.name ∷ []) place
  pub lacks : LacksRoom old.bins (build_sizes old path key place)
