-- Whole trees that are found by a path from a key.
use Rattle.std.proofs.Common.{◌≡◌, ◌≢◌, ℕ, Bool, true, false, is_some, cond, List, [], ◌∷◌, ◌++◌, length, None, refl, sym, ap, ◌∙◌, subst, arith}
use Rattle.std.specs.Prelude.{◌==◌, not}
use Rattle.std.specs.FinMap.{get}
use Rattle.std.proofs.lemmas.List.{append-nil}
use Rattle.std.proofs.lemmas.Bool.{false≢true}
use Rattle.std.proofs.lemmas.Bool.Decides.{nat_tests}
use Rattle.reg_names.specs.Names.{path_of}
use Rattle.reg_heap.specs.Paths.{Path, Tree}
use Rattle.reg_heap.specs.Edits.{folded_path, any_kept_within, any_kept_under}
use Rattle.reg_model.specs.declared.statuses.TheConstants.{FILE_NOT_FOUND, ACCESS_DENIED}
use Rattle.reg_model.specs.Causes.{refuse, ◌or◌}
use Rattle.reg_model.proofs.HandleInvariant.{Has}
use Rattle.reg_model.proofs.AcceptedCalls.{neither, not_refused, not_false}
use Rattle.reg_calls.specs.Internal.DeletedTrees.{keeps_tree}

-- ---- paths that have names, and the empty one

pub has-names : (path : List ℕ) → path_of path ≢ [] → (length path == 0) ≡ false
has-names [] some = absurd (some refl)
has-names (x ∷ xs) some = grind (arith, nat_tests)

-- the empty path from a key leads to that key
pub from-nowhere : (p : Path) (path : List ℕ) → path ≡ [] → p ++ folded_path path ≡ p
from-nowhere p path none = ap (λ (x : List ℕ). p ++ folded_path x) none ∙ append-nil p

-- ---- what may go is there

pub goes-there : (t : Tree) (p : Path) (path : List ℕ) → Has t p → keeps_tree t p path ≡ None → Has t (p ++ folded_path path)
goes-there t p [] here goes = subst (Has t) (sym (append-nil p)) here
goes-there t p (x ∷ xs) here goes = by (length (x ∷ xs) == 0) (grind (arith, nat_tests)) goes
  where
    there : Path
    there = p ++ folded_path (x ∷ xs)

    by : (b : Bool) → b ≡ false →
        cond b (refuse (any_kept_under t p) ACCESS_DENIED) (refuse (not (is_some (get t there))) FILE_NOT_FOUND or refuse (any_kept_within t there) ACCESS_DENIED) ≡ None →
        is_some (get t there) ≡ true
    by true e goes = absurd (false≢true (sym e))
    by false e goes = let late = neither _ _ goes in not_false _ (not_refused _ FILE_NOT_FOUND late.0)
