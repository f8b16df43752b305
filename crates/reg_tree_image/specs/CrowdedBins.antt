-- The bins that are built of the keys that were told, and when they have no room for the next (Suhanov, Windows registry file format
-- specification, "Hive bin", "Cell").
use Rattle.std.specs.Prelude.{◌≡◌, ◌<◌, ◌≤◌, ◌+◌, ◌⊎◌, Bool, true, ℕ, suc, Some, List, [], ◌∷◌, ◌++◌, length, ⊤}
use Rattle.reg_names.specs.declared.TheConstants.{PATH_LIMIT}
use Rattle.reg_heap.specs.Paths.{Path, Rec, Member}
use Rattle.reg_heap.specs.Edits.{child_path, edited}
use Rattle.reg_arena.specs.declared.Cell.{Cell}
use Rattle.reg_arena.specs.declared.TheConstants.{CARVE_LIMIT}
use Rattle.reg_arena.specs.Cells.{BinPlace, bins_of, cells_of_bins, content_in}
use Rattle.reg_arena.specs.NewCells.{total_of}
use Rattle.reg_values.specs.NewValues.{all_value_sizes, each_value_sizes}
use Rattle.reg_tree.specs.declared.node.Node.{Node}
use Rattle.reg_tree.specs.TreeKeys.{Keys, IsAt}
use Rattle.reg_tree.specs.CellSizes.{LacksRoom}
use Rattle.reg_tree.specs.MoreValues.{with_more_values}
use Rattle.reg_tree.specs.LongerLists.{LengthensList}
use Rattle.reg_tree.specs.MoreRoom.{MakesRoom}
use Rattle.reg_tree.specs.BuiltKeys.{AreWhole, TakesCells, with_values, BuildsRoot, BuildsKey, LacksKeyRoom}
use Rattle.reg_tree_image.specs.declared.room.TheConstants.{MOST_ROOM}
use Rattle.reg_tree_image.specs.WalkSteps.{Seen}
use Rattle.reg_tree_image.specs.LoadingWalk.{root_path}
use Rattle.reg_tree_image.specs.Images.{nothing}
use Rattle.reg_tree_image.specs.WalkedKeys.{Comes}

-- ---- room for what comes

-- nothing changed; or, where room is made ahead, it was made for so many bytes, 524,288 at most, and all is whole
abbrev pub IsReserved : Bool → Keys → Keys → Type 0
IsReserved ahead old new = (new ≡ old) ⊎ ((ahead ≡ true) × (size : ℕ) × (size ≤ MOST_ROOM) × MakesRoom old new size × AreWhole new)

-- nothing changed; or, where room is made ahead, the last list of a key's subkeys was given some, and all is whole
abbrev pub IsLonger : Bool → Keys → Keys → Type 0
IsLonger ahead old new = (new ≡ old) ⊎ ((ahead ≡ true) × (node : Node) × (more : ℕ) × LengthensList old new node more × AreWhole new)

-- maybe room was made in the bins, and then in the last list of a key's subkeys
abbrev pub IsListRoomier : Bool → Keys → Keys → Type 0
IsListRoomier ahead old new = (mid : Keys) × IsReserved ahead old mid × IsLonger ahead mid new

-- ---- all values of a key

-- how many bytes the cells have that values take together: their list's, which has room for so many, and those of each one's record and data
abbrev pub bytes_taken : ℕ → List Member → ℕ
bytes_taken room members = total_of (all_value_sizes room members)

-- with the next value the cells would have more bytes than one carve may take, where there is a next one
abbrev pub PassesCarve : (List Member → ℕ) → List Member → List Member → Type 0
PassesCarve bytes front [] = ⊤
PassesCarve bytes front (next ∷ back) = CARVE_LIMIT < bytes (front ++ next ∷ [])

-- the first of some values, as many as one carve may take: their cells have at most 16,777,216 bytes together, and those of one more would
-- pass that; and the values behind them, of which there may be none
pub record IsLongest (bytes : List Member → ℕ) (members front back : List Member) : Type 0 where
  pub parts : members ≡ front ++ back
  pub fit : bytes front ≤ CARVE_LIMIT
  pub most : PassesCarve bytes front back

-- the first of a key's values, as many as one carve may take with a list that has room for all
abbrev pub IsFront : List Member → List Member → List Member → Type 0
IsFront members front back = IsLongest (bytes_taken (length members)) members front back

-- a key got values at once, with a list that has room for so many: the tree has them, just the cells that they take came, with at most one bin
-- for all of them (32 bytes and theirs, rounded up to a multiple of 4,096), and all is whole
pub record PutsAll (bare new : Keys) (path : Path) (time room : ℕ) (members : List Member) : Type 0 where
  pub node : Node
  pub at : IsAt bare path node
  pub tree : new.tree ≡ edited bare.tree path (with_values members time)
  pub takes : TakesCells bare new (all_value_sizes room members)
  pub grows : length new.bins.bytes ≤ length bare.bins.bytes + 4127 + bytes_taken room members
  pub root : new.root ≡ bare.root
  pub whole : AreWhole new

-- how many bytes the cells have that values take together whose list is there: those of each one's record and data
abbrev pub more_bytes_taken : List Member → ℕ
more_bytes_taken members = total_of (each_value_sizes members)

-- a group of values: the first of them, one at least, as many as one carve may take without a list
pub record IsGroup (members group back : List Member) : Type 0 where
  pub some : 0 < length group
  pub first : IsLongest more_bytes_taken members group back

-- a key got values at once behind those that it had, whose list had room for them: the tree has them, just the cells that they take came, with
-- at most one bin for all of them (32 bytes and theirs, rounded up to a multiple of 4,096), and all is whole
pub record PutsMore (old new : Keys) (path : Path) (time : ℕ) (members : List Member) : Type 0 where
  pub node : Node
  pub at : IsAt old path node
  pub tree : new.tree ≡ edited old.tree path (with_more_values members time)
  pub takes : TakesCells old new (each_value_sizes members)
  pub grows : length new.bins.bytes ≤ length old.bins.bytes + 4127 + more_bytes_taken members
  pub root : new.root ≡ old.root
  pub whole : AreWhole new

-- of some values these groups were put, one behind the other, each the first of those that were left; and these are left behind them
abbrev pub PutsGroups : Path → ℕ → List (List Member) → List Member → List Member → Keys → Keys → Type 0
PutsGroups path time [] members left old new = (members ≡ left) × (new ≡ old)
PutsGroups path time (group ∷ groups) members left old new =
    (back : List Member) × (next : Keys) × IsGroup members group back × PutsMore old next path time group
    × PutsGroups path time groups back left next new

-- the key at a path, which had no values, got these: at once as many as one carve may take, with a list that has room for all, and the others in
-- groups, until none is left
pub record PutsFirst (bare new : Keys) (path : Path) (time : ℕ) (members : List Member) : Type 0 where
  pub front : List Member
  pub back : List Member
  pub first : IsFront members front back
  pub now : Keys
  pub together : PutsAll bare now path time (length members) front
  pub groups : List (List Member)
  pub others : PutsGroups path time groups back [] now new

-- the key at a path, which had no values, got these, of which there may be none
abbrev pub PutsValues : Path → ℕ → List Member → Keys → Keys → Type 0
PutsValues path time [] bare new = new ≡ bare
PutsValues path time (m ∷ members) bare new = PutsFirst bare new path time (m ∷ members)

-- of some values the first groups were put, and then there is no room for the next
pub record CrowdsGroups (old : Keys) (path : Path) (time : ℕ) (members : List Member) : Type 0 where
  pub groups : List (List Member)
  pub left : List Member
  pub now : Keys
  pub put : PutsGroups path time groups members left old now
  pub next : List Member
  pub back : List Member
  pub group : IsGroup left next back
  pub lacks : LacksRoom now.bins (each_value_sizes next)

-- there is no room for them: for those that are put first, or then for one of the groups
pub record CrowdsValues (bare : Keys) (path : Path) (time : ℕ) (members : List Member) : Type 0 where
  pub front : List Member
  pub back : List Member
  pub first : IsFront members front back
  pub lacks : LacksRoom bare.bins (all_value_sizes (length members) front)
      ⊎ ((now : Keys) × PutsAll bare now path time (length members) front × CrowdsGroups now path time back)

-- ---- keys

-- a key without its values
abbrev pub bare_of : Rec → Rec
bare_of key = record key { values = [] }

-- the root was built, maybe room was made, and it got its values
abbrev pub BuildsFirst : Bool → Keys → Rec → Type 0
BuildsFirst ahead new key =
    (bare : Keys) × BuildsRoot bare (bare_of key) × AreWhole bare
    × (roomy : Keys) × IsReserved ahead bare roomy × PutsValues [] key.time key.values roomy new

-- maybe room was made, and a key was built right below the one at a path, and got its values
abbrev pub BuildsHere : Bool → Keys → Keys → Path → Rec → Type 0
BuildsHere ahead old new above key =
    (roomy : Keys) × IsReserved ahead old roomy
    × (bare : Keys) × BuildsKey roomy bare above (bare_of key) × AreWhole bare × PutsValues (child_path above key.name) key.time key.values bare new

-- the same, where maybe room was made before in a list
abbrev pub BuildsOne : Bool → Keys → Keys → Path → Rec → Type 0
BuildsOne ahead old new above key = (roomy : Keys) × IsListRoomier ahead old roomy × BuildsHere ahead roomy new above key

-- keys were built one after the other, each at its path
abbrev pub BuildsEach : Bool → List (Path × Rec) → Keys → Keys → Type 0
BuildsEach ahead [] old new = new ≡ old
BuildsEach ahead (e ∷ told) old new =
    (above : Path) × (next : Keys) × (e.0 ≡ child_path above e.1.name) × BuildsOne ahead old next above e.1 × BuildsEach ahead told next new

-- just these keys were built, the first of them as the root
abbrev pub BuildsAll : Bool → List (Path × Rec) → Keys → Type 0
BuildsAll ahead [] keys = ⊥
BuildsAll ahead (e ∷ told) keys = (first : Keys) × (e.0 ≡ []) × BuildsFirst ahead first e.1 × BuildsEach ahead told first keys

-- ---- no room for the next

-- for the values of the root
abbrev pub CrowdsRoot : Bool → Rec → Type 0
CrowdsRoot ahead key =
    (bare : Keys) × BuildsRoot bare (bare_of key) × AreWhole bare
    × (roomy : Keys) × IsReserved ahead bare roomy × CrowdsValues roomy [] key.time key.values

-- for a key right below the one at a path; or, once it is there, for its values
abbrev pub CrowdsHere : Keys → Path → Rec → Type 0
CrowdsHere keys above key =
    LacksKeyRoom keys above (bare_of key)
    ⊎ ((bare : Keys) × BuildsKey keys bare above (bare_of key) × AreWhole bare
    × CrowdsValues bare (child_path above key.name) key.time key.values)

-- the same, where maybe room was made before in the bins
abbrev pub CrowdsInRoom : Bool → Keys → Path → Rec → Type 0
CrowdsInRoom ahead keys above key = (roomy : Keys) × IsReserved ahead keys roomy × CrowdsHere roomy above key

-- and before that in a list
abbrev pub CrowdsBelow : Bool → Keys → Path → Rec → Type 0
CrowdsBelow ahead keys above key = (roomy : Keys) × IsListRoomier ahead keys roomy × CrowdsInRoom ahead roomy above key

-- for a key at a path, once these were built
abbrev pub CrowdsNext : Bool → List (Path × Rec) → Path → Rec → Type 0
CrowdsNext ahead [] path key = (path ≡ []) × CrowdsRoot ahead key
CrowdsNext ahead (e ∷ told) path key =
    (keys : Keys) × (above : Path) × BuildsAll ahead (e ∷ told) keys × (path ≡ child_path above key.name) × CrowdsBelow ahead keys above key

-- once all keys that were told but the last were built, there is no room for that one
pub record IsCrowded (ahead : Bool) (seen : Seen) : Type 0 where
  pub told : List (Path × Rec)
  pub path : Path
  pub key : Rec
  pub told_are : seen.told ≡ told ++ (path, key) ∷ []
  pub crowds : CrowdsNext ahead told path key

-- the headers and the cells of some bins are good; and the walk of the keys in them, from a root on, meets no fault until it has told one
-- for which the new bins have no room
pub record AreCrowded (ahead : Bool) (bins : List ℕ) (minor root : ℕ) : Type 0 where
  pub places : List BinPlace
  pub cells : List Cell
  pub places_are : bins_of bins ≡ Some places
  pub cells_are : cells_of_bins bins places ≡ Some cells
  pub after : Seen
  pub comes : Comes (content_in bins cells) minor after (suc PATH_LIMIT) [] root_path root nothing
  pub crowded : IsCrowded ahead after
