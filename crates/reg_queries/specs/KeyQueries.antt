-- A key of an image listed (this project's own).
use Rattle.std.specs.Prelude.{◌≡◌, ◌++◌, ℕ, Bool, true, false, flat_map, List, Option, Some, None, Ok}
use Rattle.std.specs.Io.KnownBytes.{Appends}
use Rattle.reg_names.specs.Names.{path_of}
use Rattle.reg_heap.specs.Paths.{Tree}
use Rattle.reg_tree_image.specs.Images.{loaded}
use Rattle.reg_tree_image.specs.KeyListing.{ListedMember, Listing}
use Rattle.reg_tree_image.specs.Loads.{ReadsImage}
use Rattle.reg_tree_image.specs.PathLoads.{ListsThere, Misses, key_walk}
use Rattle.reg_tree_text.specs.DumpFronts.{IsStopped}
use Rattle.reg_tree_text.specs.Listings.{value_line, key_line, list_text}
use Rattle.reg_tree_text.specs.PathQueries.{key_at, listed, IsTold, ListStops}
use Rattle.reg_tree_text.specs.declared.path_fault.PathFault.{PathFault}
use Rattle.reg_tree_text.specs.declared.path_fault.PathFault.TheVariants.{NoKey, NoValue, Stopped}
use Rattle.reg_queries.specs.declared.fault.QueryFault.{QueryFault}
use Rattle.reg_queries.specs.declared.fault.QueryFault.TheVariants.{Load, Query}
use Rattle.reg_queries.specs.Queries.{QueryStops}

-- the line of a value
abbrev pub member_line : ListedMember → List ℕ
member_line value = value_line value.name value.kind value.size

-- the lines of some values in their order, and then of keys of some names
abbrev pub listing_lines : List ListedMember → List (List ℕ) → List ℕ
listing_lines values subkeys = flat_map member_line values ++ flat_map key_line subkeys

-- a key was found, and listed
abbrev pub IsKeyTold : Option Listing → (before after : Option (List ℕ)) → Type 0
IsKeyTold found before after =
    (listing : Listing) × (found ≡ Some listing) × Appends before after (listing_lines listing.values listing.subkeys)

-- no key was found, and nothing was written; or a front of the text was
abbrev pub IsKeyUntold : PathFault → Option Listing → (before after : Option (List ℕ)) → Type 0
IsKeyUntold NoKey found before after = (found ≡ None) × (after ≡ before)
IsKeyUntold NoValue found before after = ⊥
IsKeyUntold (Stopped fault) found before after =
    (listing : Listing) × (found ≡ Some listing) × IsStopped before after (listing_lines listing.values listing.subkeys) fault

-- an image was read, and the key at a path of its tree was listed
pub record ListsOfTree (unread left : Option (List ℕ)) (path : List ℕ) (is_tree : Bool) (before after : Option (List ℕ)) : Type 0 where
  pub tree : Tree
  pub reads : ReadsImage unread left tree
  pub written : IsTold (key_at tree path) (listed tree is_tree) before after

-- of an image no more was read than the key at a path needs, and its listing was written: where the image loads, that of its tree
pub record ListsUp (unread left : Option (List ℕ)) (path : List ℕ) (before after : Option (List ℕ)) : Type 0 where
  pub found : Option Listing
  pub lists : ListsThere unread left (path_of path) found
  pub written : IsKeyTold found before after
  pub as_loaded : (tree : Tree) → loaded lists.finds.image ≡ Ok tree → IsTold (key_at tree path) (list_text tree) before after

-- a key was listed in the one way or in the other
abbrev pub Lists : (is_look : Bool) → (unread left : Option (List ℕ)) → (path : List ℕ) → (is_tree : Bool) → (before after : Option (List ℕ)) → Type 0
Lists true unread left path is_tree before after = ListsUp unread left path before after
Lists false unread left path is_tree before after = ListsOfTree unread left path is_tree before after

-- why a key wasn't listed of an image of which only what leads there is read: that met a fault, and nothing was written; or there is no
-- such key, or a write or memory failed
abbrev pub ListLookStops : QueryFault → (unread left : Option (List ℕ)) → (path : List ℕ) → (before after : Option (List ℕ)) → Type 0
ListLookStops (Load fault) unread left path before after = Misses fault (key_walk (path_of path)) unread left × (after ≡ before)
ListLookStops (Query fault) unread left path before after =
    (found : Option Listing) × ListsThere unread left (path_of path) found × IsKeyUntold fault found before after

-- why a key wasn't listed, in the one way or in the other
abbrev pub ListEnds : (is_look : Bool) → QueryFault → (unread left : Option (List ℕ)) → (path : List ℕ) → (is_tree : Bool) → (before after : Option (List ℕ)) → Type 0
ListEnds true fault unread left path is_tree before after = ListLookStops fault unread left path before after
ListEnds false fault unread left path is_tree before after =
    QueryStops fault unread left (λ tree ended. ListStops ended tree path is_tree before after) before after
