-- How many keys are right below another, as one key more is put into a tree.
use Rattle.std.proofs.Common.{◌≡◌, ◌≢◌, ℕ, ◌+◌, ◌≤◌, Bool, true, false, cond, Option, None, IsSome, is_some, List, [], ◌∷◌, ◌++◌, length}
use Rattle.std.proofs.Common.{filter, map, refl, sym, ap, ◌∙◌, subst, arith, eqb}
use Rattle.std.specs.Prelude.{bytes_eq}
use Rattle.std.specs.declared.cmp.Ordering.{Ordering}
use Rattle.std.specs.declared.cmp.Ordering.TheVariants.{Less, Equal, Greater}
use Rattle.std.specs.Ordering.{eq_by_cmp}
use Rattle.std.specs.List.{starts_with, list_any}
use Rattle.std.specs.FinMap.{get, insert, entries, entries-insert, from_entries, get-from_entries, contains_key}
use Rattle.std.specs.FinMap.Entries.{by_order, put}
use Rattle.std.proofs.lemmas.Bool.{and_parts, or_left, eqb-true, false≢true}
use Rattle.reg_heap.specs.Paths.{Path, Tree, Rec, path_cmp, is_child, children_of}
use Rattle.reg_heap.proofs.ChildrenOfPath.{named, children-contain}
use Rattle.reg_shape.proofs.Refinement.SpeltTrees.{path_total}
use Rattle.reg_tree.proofs.InsertKey.PathGrowth.{path-self}

-- ---- one entry more

-- how many of these paths pass a test
abbrev passing : (Path → Bool) → List (Path × Rec) → ℕ
passing test es = length (filter test (map (λ (e : Path × Rec). e.0) es))

counted : (b : Bool) (p : Path) (ps : List Path) → length (cond b (p ∷ ps) ps) ≡ cond b 1 0 + length ps
counted true p ps = omega arith
counted false p ps = omega arith

put-passing : (test : Path → Bool) (q : Path) (r : Rec) (es : List (Path × Rec)) →
    passing test (put path_cmp q r es) ≤ passing test es + cond (test q) 1 0
put-passing test q r [] = let c = counted (test q) q [] in omega (arith, c)
put-passing test q r (e ∷ es) = by (path_cmp q e.0) (put-passing test q r es)
  where
    by : (o : Ordering) → passing test (put path_cmp q r es) ≤ passing test es + cond (test q) 1 0 →
        passing test (by_order o ((q, r) ∷ e ∷ es) ((e.0, r) ∷ es) (e ∷ put path_cmp q r es)) ≤ passing test (e ∷ es) + cond (test q) 1 0
    by Less rest = let c = counted (test q) q (filter test (map (λ (e : Path × Rec). e.0) (e ∷ es))) in omega (arith, c)
    by Equal rest = omega arith
    by Greater rest =
        let c = counted (test e.0) e.0 (filter test (map (λ (e : Path × Rec). e.0) es)) in
        let d = counted (test e.0) e.0 (filter test (map (λ (e : Path × Rec). e.0) (put path_cmp q r es))) in
        omega (arith, c, d, rest)

-- ---- one key more

pub child-more : (t : Tree) (p q : Path) (r : Rec) →
    length (children_of (insert t q r) p) ≤ length (children_of t p) + cond (is_child p q) 1 0
child-more t p q r =
    subst (λ (es : List (Path × Rec)). passing (is_child p) es ≤ length (children_of t p) + cond (is_child p q) 1 0)
    (sym (entries-insert path_total t q r)) (put-passing (is_child p) q r (entries t))

-- of another length than a child's it isn't one
pub no-child-of : (p q : Path) → length q ≢ length p + 1 → is_child p q ≡ false
no-child-of p q n = by (is_child p q) (λ e. n (eqb-true _ _ (and_parts (starts_with bytes_eq q p) (eqb (length q) (length p + 1)) e).1))
  where
    by : (b : Bool) → (b ≡ true → ⊥) → b ≡ false
    by true n = absurd (n refl)
    by false n = refl

-- with each key the one above it is there
abbrev pub HasParents : Tree → Type 0
HasParents t = (p : Path) (name : List ℕ) → IsSome (get t (p ++ name ∷ [])) → IsSome (get t p)

-- a key that isn't there has none below it
pub none-below : (t : Tree) (p : Path) → HasParents t → get t p ≡ None → children_of t p ≡ []
none-below t p parents none = by (children_of t p) refl
  where
    met : (q : Path) (paths : List Path) → list_any (eq_by_cmp path_cmp q) (q ∷ paths) ≡ true
    met q paths = or_left (eq_by_cmp path_cmp q q) (list_any (eq_by_cmp path_cmp q) paths) (path-self q)

    by : (paths : List Path) → children_of t p ≡ paths → paths ≡ []
    by [] e = refl
    by (q ∷ paths) e =
        let both = and_parts (is_child p q) (contains_key t q) (sym (children-contain t p q) ∙ (ap (λ ps. list_any (eq_by_cmp path_cmp q) ps) e ∙ met q paths)) in
        let n = named p q both.0 in
        let there : IsSome (get t p) = parents p n.0 (subst (λ (x : Path). IsSome (get t x)) n.1 both.1) in
        absurd (false≢true (subst (λ (o : Option Rec). is_some o ≡ true) none there))

pub none-parents : HasParents (from_entries [])
none-parents p name s =
    absurd (false≢true (subst (λ (o : Option Rec). is_some o ≡ true) (get-from_entries path_total [] (p ++ name ∷ [])) s))
