-- Whole trees to be deleted, as they are found by a path from a key.
use Rattle.std.specs.Prelude.{◌≡◌, ◌≢◌, ◌==◌, ◌++◌, not, ℕ, List, [], length, false, is_some, Option, if◌then◌else◌}
use Rattle.std.specs.FinMap.{get}
use Rattle.reg_names.specs.Names.{path_of}
use Rattle.reg_heap.specs.Paths.{Path, Tree}
use Rattle.reg_heap.specs.Edits.{folded_path, any_kept_within, any_kept_under}
use Rattle.reg_model.specs.declared.statuses.TheConstants.{FILE_NOT_FOUND, ACCESS_DENIED}
use Rattle.reg_model.specs.Causes.{refuse, ◌or◌}
use Rattle.reg_tree.specs.TreeKeys.{Keys, IsAt}
use Rattle.reg_tree.specs.Reaching.{IsWalkedTo}
use Rattle.reg_tree.specs.declared.node.Node.{Node}
use Rattle.reg_tree.specs.declared.node.Reached.{Reached}
use Rattle.reg_calls.specs.declared.delete_tree.Target.{Target}
use Rattle.reg_calls.specs.declared.delete_tree.Target.TheVariants.{Branch, Contents}

-- what keeps the tree to which a path from a key leads: 2 where the path isn't empty and no key is there, 5 where a key that would go has
-- mark 0x08
abbrev pub keeps_tree : Tree → Path → List ℕ → Option ℕ
keeps_tree t p path =
    if length path == 0 then refuse (any_kept_under t p) ACCESS_DENIED else
    (refuse (not (is_some (get t (p ++ folded_path path)))) FILE_NOT_FOUND or refuse (any_kept_within t (p ++ folded_path path)) ACCESS_DENIED)

-- a key at the end of a path that has names, with where it stands below its parent; it and all keys below it may go
pub record IsBranchFound (keys : Keys) (from : Node) (path : List ℕ) (reached : Reached) : Type 0 where
  pub walked : IsWalkedTo keys from path reached
  pub below : path_of path ≢ []
  pub there : reached.missing.now ≡ []
  pub node : (p : Path) → IsAt keys p from → IsAt keys (p ++ folded_path path) reached.node
  pub goes : (p : Path) → IsAt keys p reached.node → any_kept_within keys.tree p ≡ false

-- the key itself by the empty path; all keys below it may go
pub record AreContentsFound (keys : Keys) (from : Node) (path : List ℕ) (node : Node) : Type 0 where
  pub empty : path ≡ []
  pub own : node ≡ from
  pub goes : (p : Path) → IsAt keys p node → any_kept_under keys.tree p ≡ false

-- what goes by a path from a key
abbrev pub IsTreeFound : Keys → Node → List ℕ → Target → Type 0
IsTreeFound keys from path (Branch reached) = IsBranchFound keys from path reached
IsTreeFound keys from path (Contents node) = AreContentsFound keys from path node
