-- The walk over a tree's keys (this project's own).
use Rattle.std.specs.Prelude.{◌≡◌, ℕ, zero, suc, ◌+◌, ◌≤◌, Bool, true, false, List, [], ◌∷◌, ◌++◌, length, take, drop, reverse, flat_map, Option, Some, None}
use Rattle.std.specs.FinMap.{get}
use Rattle.reg_names.specs.declared.TheConstants.{PATH_LIMIT}
use Rattle.reg_names.specs.Names.{text_of}
use Rattle.reg_heap.specs.Paths.{Path, Tree, children_of}
use Rattle.reg_tree.specs.declared.node.Subkey.{Subkey}
use Rattle.reg_tree.specs.TreeKeys.{Keys, IsAt}
use Rattle.reg_tree.specs.SubkeyWalk.{IsSubkeyAt}
use Rattle.reg_tree_text.specs.declared.walk.Pending.{Pending}
use Rattle.reg_tree_text.specs.declared.walk.Walk.{Walk}
use Rattle.reg_tree_text.specs.declared.counts.Counts.{Counts}
use Rattle.reg_tree_text.specs.DumpTexts.{Told, name_of, told_from, keys_told, values_in}

-- the text of a path with one name more, from that of a path, which has so many bytes
abbrev pub text_below : ℕ → List ℕ → List ℕ → List ℕ
text_below zero front name = front ++ name
text_below (suc long) front name = (front ++ 92 ∷ []) ++ name

-- some of the keys right below one, each with those below it
abbrev pub told_below : ℕ → Tree → List (List ℕ) → List Path → List Told
told_below levels tree names children = flat_map (λ child. told_from levels tree (names ++ name_of (get tree child) ∷ []) child) children

-- a key that has no more than this below it, at a path, with the names that lead to it from where the walk began: none, or a text of
-- some bytes
pub record IsPlace (path : Path) (names : List (List ℕ)) (levels : ℕ) : Type 0 where
  pub deep : PATH_LIMIT ≤ levels + length path
  pub long : length (text_of names) ≡ 0 → length names ≡ 0

-- a subkey and those behind it are still to come, with all that is below them; the text of a path begins with their parent's
pub record IsPending (keys : Keys) (text : List ℕ) (pending : Pending) (rest : List Told) : Type 0 where
  pub path : Path
  pub names : List (List ℕ)
  pub levels : ℕ
  pub index : ℕ
  pub place : IsPlace path names levels
  pub at : IsAt keys path pending.parent
  pub subkey : IsSubkeyAt keys path pending.parent index pending.subkey
  pub within : pending.front ≤ length text
  pub text_is : take pending.front text ≡ text_of names
  pub rest_is : rest ≡ told_below levels keys.tree names (drop index (children_of keys.tree path))

-- these are still to come, the first ones first; their parents' texts are ever shorter
abbrev pub ArePending : Keys → List ℕ → ℕ → List Pending → List Told → Type 0
ArePending keys text bound [] rest = rest ≡ []
ArePending keys text bound (pending ∷ others) rest =
    (here : List Told) × (more : List Told) × IsPending keys text pending here × (pending.front ≤ bound)
    × ArePending keys text pending.front others more × (rest ≡ here ++ more)

-- the subkey behind a pending one was noted, if there is one
abbrev pub IsNoted : Keys → Path → ℕ → Pending → List Pending → List Pending → Type 0
IsNoted keys path index pending old new =
    (next : Option Subkey) × IsNext next
  where
    IsNext : Option Subkey → Type 0
    IsNext None = (index + 1 ≡ length (children_of keys.tree path)) × (new ≡ old)
    IsNext (Some subkey) = IsSubkeyAt keys path pending.parent (index + 1) subkey × (new ≡ record pending { subkey = subkey } ∷ old)

-- a walk stands at a key, and these are to come behind it
pub record Stands (keys : Keys) (walk : Walk) (here : Told) (rest : List Told) : Type 0 where
  pub path : Path
  pub levels : ℕ
  pub more : List Told
  pub place : IsPlace path here.names levels
  pub at : IsAt keys path walk.node
  pub key : get keys.tree path ≡ Some here.key
  pub text : walk.path.items ≡ text_of here.names
  pub pending : ArePending keys walk.path.items (length walk.path.items) (reverse walk.pending.items) more
  pub rest_is : rest ≡ told_below levels keys.tree here.names (children_of keys.tree path) ++ more

-- it stands at the first of these
pub record Goes (keys : Keys) (walk : Walk) (all : List Told) : Type 0 where
  pub told : Told
  pub rest : List Told
  pub all_is : all ≡ told ∷ rest
  pub stands : Stands keys walk told rest

-- it went on to the first of these, or there is none
abbrev pub Advances : Keys → Walk → List Told → Bool → Type 0
Advances keys walk rest true = Goes keys walk rest
Advances keys walk rest false = rest ≡ []

-- a walk has come to a key, and the keys before it were counted
pub record IsAmid (keys : Keys) (walk : Walk) (counts : Counts) : Type 0 where
  pub done : List Told
  pub here : Told
  pub rest : List Told
  pub all_is : keys_told keys.tree ≡ done ++ here ∷ rest
  pub stands : Stands keys walk here rest
  pub keys_is : counts.keys ≡ length done
  pub values_is : counts.values ≡ values_in done

-- the key at which a walk stands was counted
pub record CountsKey (here : Told) (old new : Counts) : Type 0 where
  pub keys : new.keys ≡ old.keys + 1
  pub values : new.values ≡ old.values + length here.key.values
