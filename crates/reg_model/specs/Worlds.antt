-- A world, and what an accepted change makes of it.
use Rattle.std.specs.Prelude.{ℕ, ◌==◌, Bool, not, List, [], ◌∷◌, ◌++◌, map, filter, length, if◌then◌else◌, Option, Some, None, IsSome, All}
use Rattle.std.specs.Ordering.{eq_by_cmp}
use Rattle.std.specs.FinMap.{get}
use Rattle.reg_names.specs.Names.{path_of}
use Rattle.reg_heap.specs.Paths.{Path, Tree, path_cmp}
use Rattle.reg_heap.specs.Edits.{edited, with_value, without_value, with_descriptor, folded_path, with_keys, without_key}
use Rattle.reg_heap.specs.Edits.{is_within, is_under, without_tree, emptied}
use Rattle.reg_model.specs.declared.call.Change.{Change}
use Rattle.reg_model.specs.declared.call.Change.TheVariants.{OpenRoot, OpenKey, CreateKey, SetValue, DeleteValue, DeleteKey, DeleteTree, SetSecurity, Notify, Close}
use Rattle.reg_model.specs.declared.reply.Entry.{Entry}

-- where a handle leads: to a key, or nowhere any more
pub data Destination : Type 0 where
  At : Path → Destination
  Deleted : Destination

-- a key that a handle leads to is in the tree
abbrev pub StandsIn : Tree → Destination → Type 0
StandsIn t (At p) = IsSome (get t p)
StandsIn t Deleted = Unit {0}

-- an open handle: its number, its session, its rights and where it leads
pub record Handle : Type 0 where
  pub number : ℕ
  pub session : ℕ
  pub mask : ℕ
  pub destination : Destination

-- the tree, and the open handles in the order of their numbers
pub record World : Type 0 where
  pub tree : Tree
  pub handles : List Handle

-- the root is in the tree, and so is each key that a handle leads to
pub record IsStanding (t : Tree) (hs : List Handle) : Type 0 where
  pub root : IsSome (get t [])
  pub stand : All (λ (h : Handle). StandsIn t h.destination) hs

-- the handle of that number
abbrev pub numbered : ℕ → List Handle → Option Handle
numbered number [] = None
numbered number (h ∷ hs) = if h.number == number then Some h else numbered number hs

abbrev pub owned : ℕ → Option Handle → Option Handle
owned session None = None
owned session (Some h) = if h.session == session then Some h else None

-- the session's handle of that number
abbrev pub look : ℕ → ℕ → List Handle → Option Handle
look session number hs = owned session (numbered number hs)

abbrev pub path_in : Destination → Path
path_in (At p) = p
path_in Deleted = []

-- the path of a handle's key; the root's where there is none
abbrev pub path_at : ℕ → ℕ → List Handle → Path
path_at session number hs = by (look session number hs)
  where
    by : Option Handle → Path
    by None = []
    by (Some h) = path_in h.destination

-- the path that is written as text, from a handle's key on
abbrev pub path_from : ℕ → ℕ → List Handle → List ℕ → Path
path_from session number hs text = path_at session number hs ++ folded_path text

-- a handle that an entry opens has the entry's number
abbrev pub opened : Entry → Path → ℕ → Handle
opened e p mask = record { number = e.number; session = e.session; mask = mask; destination = At p }

-- the handles without the one of that number
abbrev pub closed : ℕ → List Handle → List Handle
closed number hs = filter (λ (h : Handle). not (h.number == number)) hs

abbrev pub same_path : Path → Path → Bool
same_path = eq_by_cmp path_cmp

-- where a handle leads once the keys are gone whose paths pass a test
abbrev pub destination_past : (Path → Bool) → Destination → Destination
destination_past gone (At q) = if gone q then Deleted else At q
destination_past gone Deleted = Deleted

-- the handles once these keys are gone: those on them lead nowhere any more
abbrev pub turned_past : (Path → Bool) → List Handle → List Handle
turned_past gone hs = map (λ (h : Handle). record h { destination = destination_past gone h.destination }) hs

-- where a handle leads once the key at a path is gone
abbrev pub destination_without : Path → Destination → Destination
destination_without p = destination_past (λ (q : Path). same_path q p)

-- the handles once the key at a path is gone
abbrev pub turned : Path → List Handle → List Handle
turned p = turned_past (λ (q : Path). same_path q p)

-- the world without the key at a path and all keys below it
abbrev pub without_branch : World → Path → ℕ → World
without_branch w p moment = record { tree = without_tree w.tree p moment; handles = turned_past (is_within p) w.handles }

-- the world without the keys below the one at a path, and without its values
abbrev pub without_contents : World → Path → ℕ → World
without_contents w p moment = record { tree = emptied w.tree p moment; handles = turned_past (is_under p) w.handles }

-- the world after an accepted change (`RegOpenKeyEx`, `RegCreateKeyEx`, `RegSetValueEx`, `RegDeleteValue`, `RegDeleteKey`,
-- `RegDeleteTree`, `RegSetKeySecurity`, `RegNotifyChangeKeyValue`, `RegCloseKey`): one line for each change
unfoldable pub after : World → Entry → World
after w e = by e.change
  where
    by : Change → World
    by (OpenRoot mask) = record w { handles = w.handles ++ opened e [] mask ∷ [] }
    by (OpenKey h path mask) = record w { handles = w.handles ++ opened e (path_from e.session h w.handles path) mask ∷ [] }
    by (CreateKey h path mask given) =
        record {
          tree = with_keys w.tree (path_at e.session h w.handles) (path_of path) given e.moment;
          handles = w.handles ++ opened e (path_from e.session h w.handles path) mask ∷ [];
        }
    by (SetValue h name kind bytes) = record w { tree = edited w.tree (path_at e.session h w.handles) (with_value name kind bytes e.moment) }
    by (DeleteValue h name) = record w { tree = edited w.tree (path_at e.session h w.handles) (without_value name e.moment) }
    by (DeleteKey h path) =
        record { tree = without_key w.tree (path_from e.session h w.handles path) e.moment; handles = turned (path_from e.session h w.handles path) w.handles }
    by (DeleteTree h path) =
        if length path == 0 then without_contents w (path_at e.session h w.handles) e.moment else
        (without_branch w (path_from e.session h w.handles path) e.moment)
    by (SetSecurity h descriptor) = record w { tree = edited w.tree (path_at e.session h w.handles) (with_descriptor descriptor e.moment) }
    by (Notify h filter subtree) = w
    by (Close h) = record w { handles = closed h w.handles }
