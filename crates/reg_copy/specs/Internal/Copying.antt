-- Keys on their way from one tree to another.
use Rattle.std.specs.Prelude.{◌≡◌, ◌⊎◌, ◌<◌, ◌≤◌, ◌+◌, ℕ, Bool, true, false, cond, List, [], ◌∷◌, ◌++◌, length, take, drop, ⊤, Option, Some, None, IsSome}
use Rattle.std.specs.Option.{option_map}
use Rattle.std.specs.List.{list_any}
use Rattle.std.specs.FinMap.{get, insert}
use Rattle.reg_names.specs.declared.TheConstants.{PATH_LIMIT}
use Rattle.reg_heap.specs.declared.limits.TheConstants.{SUBKEYS_LIMIT}
use Rattle.reg_heap.specs.Paths.{Path, Tree, Rec, children_of}
use Rattle.reg_heap.specs.Edits.{child_path, is_within}
use Rattle.reg_tree.specs.declared.node.Node.{Node}
use Rattle.reg_tree.specs.declared.node.Subkey.{Subkey}
use Rattle.reg_tree.specs.TreeKeys.{Keys, IsAt, KeepsNodes}
use Rattle.reg_tree.specs.SubkeyWalk.{IsSubkeyAt}
use Rattle.reg_copy.specs.declared.fault.CopyFault.{CopyFault}
use Rattle.reg_copy.specs.declared.fault.CopyFault.TheVariants.{NoKey, NoPlace, Taken, Limit, Full, Memory}
use Rattle.reg_copy.specs.declared.copying.Pending.{Pending}
use Rattle.reg_copy.specs.Copies.{copy_of, WontFit}

-- a key as another one, with these marks and so many of its values, from the first on
abbrev pub front_copy : (marks count : ℕ) → Rec → Rec
front_copy marks count r = record r { marks = marks; values = take count r.values }

-- what is told is such a copy, with some marks
abbrev pub IsFront : ℕ → Rec → Option Rec → Type 0
IsFront count r told = (marks : ℕ) × (told ≡ Some (front_copy marks count r))

-- a key of that name was made right below the one at a path, and has this node; each other node stays that of its key
pub record IsKeyCopied (old new : Keys) (path : Path) (name : List ℕ) (key : Rec) (node : Node) : Type 0 where
  pub tree : new.tree ≡ insert old.tree (child_path path name) key
  pub at : IsAt new (child_path path name) node
  pub nodes : KeepsNodes old new

-- no key was made right below the one at a path
abbrev pub IsRefused : CopyFault → Tree → Path → Type 0
IsRefused NoKey tree path = ⊥
IsRefused NoPlace tree path = ⊥
IsRefused Taken tree path = ⊥
IsRefused Limit tree path = (PATH_LIMIT < length path + 1) ⊎ (SUBKEYS_LIMIT ≤ length (children_of tree path))
IsRefused Full tree path = ⊤
IsRefused Memory tree path = ⊤

-- whether a path is at or below one of these
abbrev pub is_left : List Path → Path → Bool
is_left left path = list_any (λ (k : Path). is_within k path) left

-- no path is at or below two of these
abbrev pub AreApart : List Path → Type 0
AreApart [] = ⊤
AreApart (k ∷ left) = ((path : Path) → is_within k path ≡ true → is_left left path ≡ false) × AreApart left

-- a key and its copy, whose subkeys from one on are still to be copied; behind them come more
pub record IsPending (source target : Keys) (from to : Path) (pending : Pending) (more left : List Path) : Type 0 where
  pub below : Path
  pub index : ℕ
  pub at : IsAt source (from ++ below) pending.source
  pub copy : IsAt target (to ++ below) pending.copy
  pub subkey : IsSubkeyAt source (from ++ below) pending.source index pending.subkey
  pub few : length (children_of target.tree (to ++ below)) ≤ index
  pub left_is : left ≡ drop index (children_of source.tree (from ++ below)) ++ more

-- these paths are still to be copied, each with all below it, the first ones first; each key has fewer names on its path than the one before
abbrev pub AreLeft : (source target : Keys) (from to : Path) (bound : ℕ) → List Pending → List Path → Type 0
AreLeft source target from to bound [] left = left ≡ []
AreLeft source target from to bound (pending ∷ others) left =
    (more : List Path) × (here : IsPending source target from to pending more left) × (length here.below < bound)
    × AreLeft source target from to (length here.below) others more

-- the key at a path of the source, as it is copied, unless it is still to come
abbrev pub copied_so_far : Tree → List Path → Path → Option Rec
copied_so_far source left path = cond (is_left left path) None (option_map (copy_of path) (get source path))

-- the keys were copied but for those that are left
pub record IsAmid (source target : Keys) (from to : Path) (old : Tree) (stack : List Pending) : Type 0 where
  pub left : List Path
  pub bound : ℕ
  pub are : AreLeft source target from to bound stack left
  pub apart : AreApart left
  pub copied : (path : Path) → get target.tree (to ++ path) ≡ copied_so_far source.tree left (from ++ path)
  pub others : (path : Path) → is_within to path ≡ false → get target.tree path ≡ get old path

-- the subkey at an index of a key was noted as pending, if there are so many
abbrev pub IsNoted : (source : Keys) (path : Path) (node copy : Node) (index : ℕ) (old new : List Pending) → Type 0
IsNoted source path node copy index old new =
    ((length (children_of source.tree path) ≤ index) × (new ≡ old))
    ⊎ ((subkey : Subkey) × IsSubkeyAt source path node index subkey
    × (new ≡ old ++ record { source = node; copy = copy; subkey = subkey } ∷ []))

-- why not all below a key was copied
abbrev pub IsStopped : CopyFault → (source : Tree) (from to : Path) → Type 0
IsStopped NoKey source from to = ⊥
IsStopped NoPlace source from to = ⊥
IsStopped Taken source from to = ⊥
IsStopped Limit source from to = (path : Path) × IsSome (get source (from ++ path)) × (PATH_LIMIT < length (to ++ path))
IsStopped Full source from to = ⊤
IsStopped Memory source from to = ⊤

-- why a key and what is below it weren't copied
abbrev pub IsHalted : CopyFault → (source target : Tree) (from into to : Path) → Type 0
IsHalted NoKey source target from into to = ⊥
IsHalted NoPlace source target from into to = ⊥
IsHalted Taken source target from into to = ⊥
IsHalted Limit source target from into to = WontFit source target from into to
IsHalted Full source target from into to = ⊤
IsHalted Memory source target from into to = ⊤
