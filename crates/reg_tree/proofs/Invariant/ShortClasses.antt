-- Classes stay short where keys change: no change of a tree makes a class, or another one.
use Rattle.std.proofs.Common.{◌≡◌, ℕ, ◌<◌, Bool, true, false, cond, Option, Some, None, List, [], ◌∷◌, length, refl, sym, ◌∙◌, subst, arith}
use Rattle.std.specs.Prelude.{unwrap_or}
use Rattle.std.specs.Ordering.{eq_by_cmp}
use Rattle.std.specs.FinMap.{get, insert, remove, empty, get-insert, get-remove, get-empty}
use Rattle.std.proofs.lemmas.Option.{none-some, same_Some}
use Rattle.reg_heap.specs.Paths.{Path, Tree, Rec, path_cmp}
use Rattle.reg_heap.specs.Edits.{edited, above, at_time, made_key, descriptor_of, child_path, has_child, if_last, with_key, with_keys, without_key}
use Rattle.reg_shape.proofs.Refinement.SpeltTrees.{path_total}
use Rattle.reg_tree.specs.Internal.TreeInvariant.{HasShortClasses}

-- one key put
insert-short : (t : Tree) (p : Path) (r : Rec) → length r.class < 65536 → HasShortClasses t → HasShortClasses (insert t p r)
insert-short t p r l s = record { short = λ q k e. by q k (eq_by_cmp path_cmp q p) (sym (get-insert path_total t p r q) ∙ e) }
  where
    by : (q : Path) (k : Rec) (b : Bool) → cond b (Some r) (get t q) ≡ Some k → length k.class < 65536
    by q k true e = subst (λ (k : Rec). length k.class < 65536) (same_Some _ _ e) l
    by q k false e = s.short q k e

-- one key removed
remove-short : (t : Tree) (p : Path) → HasShortClasses t → HasShortClasses (remove t p)
remove-short t p s = record { short = λ q k e. by q k (eq_by_cmp path_cmp q p) (sym (get-remove path_total t p q) ∙ e) }
  where
    by : (q : Path) (k : Rec) (b : Bool) → cond b None (get t q) ≡ Some k → length k.class < 65536
    by q k true e = absurd (none-some _ e)
    by q k false e = s.short q k e

-- a key alone
pub root-short : (r : Rec) → length r.class < 65536 → HasShortClasses (insert (empty {R = path_cmp}) [] r)
root-short r l = insert-short empty [] r l (record { short = λ q k e. absurd (none-some _ (sym (get-empty path_cmp q) ∙ e)) })

-- the key at a path changed, with as long a class
pub edited-short : (t : Tree) (p : Path) (f : Rec → Rec) → ((r : Rec) → get t p ≡ Some r → length (f r).class ≡ length r.class) →
    HasShortClasses t → HasShortClasses (edited t p f)
edited-short t p f same s = by (get t p) refl
  where
    by : (o : Option Rec) → get t p ≡ o → HasShortClasses (elim o as (λ _. Tree) [ None ↦ t | Some r ↦ insert t p (f r) ])
    by None e = s
    by (Some r) e = let l = s.short p r e in let n = same r e in insert-short t p (f r) (omega (arith, l, n)) s

-- the key at a path changed, with a short class
pub classed-short : (t : Tree) (p : Path) (f : Rec → Rec) → ((r : Rec) → length (f r).class < 65536) → HasShortClasses t → HasShortClasses (edited t p f)
classed-short t p f short s = by (get t p)
  where
    by : (o : Option Rec) → HasShortClasses (elim o as (λ _. Tree) [ None ↦ t | Some r ↦ insert t p (f r) ])
    by None = s
    by (Some r) = insert-short t p (f r) (short r) s

one-short : (t : Tree) (p : Path) (name : List ℕ) (given : Option (List ℕ)) (moment : ℕ) →
    HasShortClasses t → HasShortClasses (with_key t p name given moment)
one-short t p name given moment s =
    insert-short (edited t p (at_time moment)) (child_path p name) (made_key name (unwrap_or given (descriptor_of (get t p))) moment) (omega arith)
    (edited-short t p (at_time moment) (λ r e. refl) s)

-- keys made
pub made-short : (t : Tree) (p : Path) (names : List (List ℕ)) (given : Option (List ℕ)) (moment : ℕ) →
    HasShortClasses t → HasShortClasses (with_keys t p names given moment)
made-short t p [] given moment s = s
made-short t p (name ∷ names) given moment s =
    made-short (cond (has_child t p name) t (with_key t p name (if_last names given) moment)) (child_path p name) names given moment
    (by (has_child t p name))
  where
    by : (b : Bool) → HasShortClasses (cond b t (with_key t p name (if_last names given) moment))
    by true = s
    by false = one-short t p name (if_last names given) moment s

-- a key deleted
pub deleted-short : (t : Tree) (p : Path) (moment : ℕ) → HasShortClasses t → HasShortClasses (without_key t p moment)
deleted-short t p moment s = remove-short (edited t (above p) (at_time moment)) p (edited-short t (above p) (at_time moment) (λ r e. refl) s)
