-- What the entries of the keys from one on make, whether that is the root or a key below it.
use Rattle.std.proofs.Common.{◌≡◌, ℕ, ◌||◌, ◌&&◌, Bool, false, cond, is_some, List, [], ◌∷◌, Option, Some, None, IsSome, refl, sym, ap, ◌∙◌, subst}
use Rattle.std.specs.FinMap.{get}
use Rattle.reg_heap.specs.Paths.{Path, Tree, Rec}
use Rattle.reg_heap.specs.Edits.{values_at, is_within}
use Rattle.reg_heap.specs.Trees.{IsTree, IsWithinLimits}
use Rattle.reg_heap.proofs.DeletedTrees.{within-append}
use Rattle.reg_model.proofs.FewEvents.{snoc}
use Rattle.reg_tree_text.specs.DumpTexts.{name_of}
use Rattle.reg_dotreg_writer.specs.Entries.{keys_from}
use Rattle.reg_dotreg_import.specs.Imports.{begun, imported}
use Rattle.reg_dotreg_law.specs.EntriesDue.{entries_below}
use Rattle.reg_dotreg_law.specs.MadeAgain.{IsBare, HasSame, HasSameBelow}
use Rattle.reg_dotreg_law.proofs.MadeKeys.{tree-made}
use Rattle.reg_dotreg_law.proofs.TreesMadeAgain.{bare-tree, made-again, root-named}
use Rattle.reg_dotreg_law.proofs.BranchesMade.{and-always, branch-made, branch-root}

-- ---- the branch of the root is the tree

below-root : (new tree : Tree) → HasSame new tree → HasSameBelow new tree []
below-root new tree s = record {
  keys = λ q. s.keys q
      ∙ (and-always (is_some (get tree q)) ∙ ap (λ (w : Bool). is_some (get tree q) && (w || is_within q [])) (sym (within-append [] q)));
  values = λ q. s.values q ∙ ap (λ (w : Bool). cond w (values_at tree q) []) (sym (within-append [] q));
  names = λ n r some. s.names n r;
}

none-there : (o : Option Rec) → is_some o ≡ false → name_of o ≡ []
none-there None e = refl
none-there (Some r) e = absurd (cc)

pub whole-root : (new tree : Tree) → HasSameBelow new tree [] → HasSame new tree
whole-root new tree s = record { keys = keys; values = values; names = λ n r. by n r (get new (n ∷ r)) refl }
  where
    keys : (q : Path) → is_some (get new q) ≡ is_some (get tree q)
    keys q =
        s.keys q
        ∙ (ap (λ (w : Bool). is_some (get tree q) && (w || is_within q [])) (within-append [] q) ∙ sym (and-always (is_some (get tree q))))

    values : (q : Path) → values_at new q ≡ values_at tree q
    values q = s.values q ∙ ap (λ (w : Bool). cond w (values_at tree q) []) (within-append [] q)

    by : (n : List ℕ) (r : Path) (o : Option Rec) → get new (n ∷ r) ≡ o → name_of (get new (n ∷ r)) ≡ name_of (get tree (n ∷ r))
    by n r None e =
        ap name_of e ∙ sym (none-there (get tree (n ∷ r)) (sym (keys (n ∷ r)) ∙ ap (λ (x : Option Rec). is_some x) e))
    by n r (Some k) e = s.names n r (ap (λ (x : Option Rec). is_some x) e)

-- ---- any branch

module _ (tree : Tree) (i : IsTree tree) (limits : IsWithinLimits tree) (moment : ℕ) (bare : Tree) (b : IsBare bare) where
  abbrev new : Path → Tree
  new path = imported moment bare (entries_below tree path)

  pub branch-again : (path : Path) → IsSome (get tree path) → HasSameBelow (new path) tree path
  branch-again [] there = below-root (new []) tree (made-again tree i limits moment bare b)
  branch-again (n ∷ r) there =
      let s = snoc n r in
      subst (λ (p : Path). HasSameBelow (new p) tree p) (sym s.is)
      (branch-made tree i limits moment bare b s.front s.name (subst (λ (p : Path). IsSome (get tree p)) s.is there))

  pub branch-named : (path : Path) → IsSome (get tree path) → name_of (get (new path) []) ≡ name_of (get bare [])
  branch-named [] there = root-named tree i limits moment bare b
  branch-named (n ∷ r) there =
      let s = snoc n r in
      subst (λ (p : Path). name_of (get (new p) []) ≡ name_of (get bare [])) (sym s.is)
      (branch-root tree i limits moment bare b s.front s.name (subst (λ (p : Path). IsSome (get tree p)) s.is there))

  pub branch-tree : (path : Path) → IsTree (new path)
  branch-tree path = tree-made moment (keys_from (name_of (get tree [])) tree path) (begun bare) (bare-tree bare b)
