-- What is asked of an image (this project's own).
use Rattle.std.specs.Prelude.{◌≡◌, ◌&&◌, not, ℕ, Bool, true, false, List, Option, Some, None, Ok}
use Rattle.std.specs.Io.KnownBytes.{Appends}
use Rattle.reg_names.specs.Names.{is_path, path_of}
use Rattle.reg_heap.specs.Paths.{Path, Tree, Member}
use Rattle.reg_tree_image.specs.Images.{loaded}
use Rattle.reg_tree_image.specs.Loads.{ReadsImage, MeetsFault}
use Rattle.reg_tree_image.specs.PathLoads.{FindsThere, MissesThere}
use Rattle.reg_tree_text.specs.DumpFronts.{IsStopped}
use Rattle.reg_tree_text.specs.PathQueries.{key_at, value_at, shown, IsTold, GetStops}
use Rattle.reg_tree_text.specs.declared.path_fault.PathFault.{PathFault}
use Rattle.reg_tree_text.specs.declared.path_fault.PathFault.TheVariants.{NoKey, NoValue, Stopped}
use Rattle.reg_queries.specs.declared.fault.QueryFault.{QueryFault}
use Rattle.reg_queries.specs.declared.fault.QueryFault.TheVariants.{Load, Query}

-- an image was read, and the key at a path of its tree was written as a table
pub record Tabulates (unread left : Option (List ℕ)) (path : List ℕ) (table : Tree → Path → List ℕ) (before after : Option (List ℕ)) : Type 0 where
  pub tree : Tree
  pub reads : ReadsImage unread left tree
  pub written : IsTold (key_at tree path) (table tree) before after

-- an image was read, and the value of that name of the key at a path of its tree was written
pub record GetsOfTree (unread left : Option (List ℕ)) (path name : List ℕ) (is_raw : Bool) (before after : Option (List ℕ)) : Type 0 where
  pub tree : Tree
  pub reads : ReadsImage unread left tree
  pub written : IsTold (value_at tree path name) (shown is_raw) before after

-- a value was found, and written
abbrev pub IsFoundTold : Option (Option Member) → (is_raw : Bool) → (before after : Option (List ℕ)) → Type 0
IsFoundTold found is_raw before after = (value : Member) × (found ≡ Some (Some value)) × Appends before after (shown is_raw value)

-- of an image so much was read as leads to the value of that name of the key at a path, and this was written: where the image loads, that
-- of its tree
pub record LooksUp (unread left : Option (List ℕ)) (path name : List ℕ) (is_raw : Bool) (before after : Option (List ℕ)) : Type 0 where
  pub found : Option (Option Member)
  pub finds : FindsThere unread left (path_of path) name found
  pub written : IsFoundTold found is_raw before after
  pub as_loaded : (tree : Tree) → loaded finds.image ≡ Ok tree → IsTold (value_at tree path name) (shown is_raw) before after

-- whether only what is on the way is read: where the whole isn't to be tested, and the text is a path
abbrev pub is_look : (is_whole : Bool) → (path : List ℕ) → Bool
is_look is_whole path = not is_whole && is_path path

-- a value was written in the one way or in the other
abbrev pub Gets : (is_look : Bool) → (unread left : Option (List ℕ)) → (path name : List ℕ) → (is_raw : Bool) → (before after : Option (List ℕ)) → Type 0
Gets true unread left path name is_raw before after = LooksUp unread left path name is_raw before after
Gets false unread left path name is_raw before after = GetsOfTree unread left path name is_raw before after

-- why nothing was written, or not all: the image doesn't load, and nothing was written; or it was read, and its tree gave no answer, or
-- a write or memory failed
abbrev pub QueryStops : QueryFault → (unread left : Option (List ℕ)) → (Tree → PathFault → Type 0) → (before after : Option (List ℕ)) → Type 0
QueryStops (Load fault) unread left stops before after = MeetsFault fault unread left × (after ≡ before)
QueryStops (Query fault) unread left stops before after = (tree : Tree) × ReadsImage unread left tree × stops tree fault

-- no key was found, or no value of it, and nothing was written; or a front of the value's text was
abbrev pub IsFoundUntold : PathFault → Option (Option Member) → (is_raw : Bool) → (before after : Option (List ℕ)) → Type 0
IsFoundUntold NoKey found is_raw before after = (found ≡ None) × (after ≡ before)
IsFoundUntold NoValue found is_raw before after = (found ≡ Some None) × (after ≡ before)
IsFoundUntold (Stopped fault) found is_raw before after =
    (value : Member) × (found ≡ Some (Some value)) × IsStopped before after (shown is_raw value) fault

-- so of an image of which only what leads to a value is read: that met a fault, and nothing was written; or it gave no answer, or a write
-- or memory failed
abbrev pub LookStops : QueryFault → (unread left : Option (List ℕ)) → (path name : List ℕ) → (is_raw : Bool) → (before after : Option (List ℕ)) → Type 0
LookStops (Load fault) unread left path name is_raw before after = MissesThere fault unread left (path_of path) name × (after ≡ before)
LookStops (Query fault) unread left path name is_raw before after =
    (found : Option (Option Member)) × FindsThere unread left (path_of path) name found × IsFoundUntold fault found is_raw before after

-- why a value wasn't written, in the one way or in the other
abbrev pub GetEnds : (is_look : Bool) → QueryFault → (unread left : Option (List ℕ)) → (path name : List ℕ) → (is_raw : Bool) → (before after : Option (List ℕ)) → Type 0
GetEnds true fault unread left path name is_raw before after = LookStops fault unread left path name is_raw before after
GetEnds false fault unread left path name is_raw before after =
    QueryStops fault unread left (λ tree ended. GetStops ended tree path name is_raw before after) before after
