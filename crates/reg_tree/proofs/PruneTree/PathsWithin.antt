-- Paths at or below one, and whether one of a tree's keys there has something.
use Rattle.std.proofs.Common.{◌≡◌, ℕ, ◌<◌, ◌&&◌, Bool, true, false, IsSome, nat_lt, List, [], ◌∷◌, ◌++◌, length, drop, get_or, refl, sym, ap, ◌∙◌, subst, arith, length-append}
use Rattle.std.specs.Prelude.{bytes_eq}
use Rattle.std.specs.List.{starts_with, list_any}
use Rattle.std.specs.Ordering.{is_eq, eq_by_cmp}
use Rattle.std.specs.FinMap.{get, keys, contains_key-keys}
use Rattle.std.proofs.lemmas.Bool.{and_parts, and_from, false≢true, ltb-true, lt-ltb}
use Rattle.std.proofs.lemmas.Cmp.{tied_itself}
use Rattle.std.proofs.lemmas.List.{append-nil}
use Rattle.std.proofs.lemmas.List.Folds.{list_any_at}
use Rattle.std.proofs.lemmas.Slice.Eq.{starts_is, bytes_eq-Decides}
use Rattle.reg_heap.specs.Paths.{Path, Tree, path_cmp}
use Rattle.reg_heap.specs.Edits.{is_within, is_under, is_marked}
use Rattle.reg_heap.proofs.ChildrenOfPath.{path-is}
use Rattle.reg_shape.proofs.Refinement.SpeltTrees.{path_total}
use Rattle.reg_tree.proofs.PruneTree.PathOrder.{any-at}

-- ---- at or below a path

pub within-parts : (p q : Path) → is_within p q ≡ true → q ≡ p ++ drop (length p) q
within-parts p q e = (starts_is bytes_eq-Decides q p (starts_with bytes_eq q p) refl).0 e

pub within-is : (p q rest : Path) → q ≡ p ++ rest → is_within p q ≡ true
within-is p q rest e = (starts_is bytes_eq-Decides q p (starts_with bytes_eq q p) refl).1 rest e

pub under-parts : (p q : Path) → is_under p q ≡ true → (x : List ℕ) × (rest : Path) × (q ≡ p ++ x ∷ rest)
under-parts p q e =
    let both = and_parts (is_within p q) (nat_lt (length p) (length q)) e in
    by (drop (length p) q) (within-parts p q both.0) (ltb-true _ _ both.1)
  where
    by : (d : Path) → q ≡ p ++ d → length p < length q → (x : List ℕ) × (rest : Path) × (q ≡ p ++ x ∷ rest)
    by [] f l = absurd (let m = ap length (f ∙ append-nil p) in omega (arith, l, m))
    by (x ∷ rest) f l = (x, rest, f)

pub under-is : (p q : Path) (x : List ℕ) (rest : Path) → q ≡ p ++ x ∷ rest → is_under p q ≡ true
under-is p q x rest e =
    and_from (is_within p q) (nat_lt (length p) (length q)) (within-is p q (x ∷ rest) e)
    (lt-ltb _ _ (let m = ap length e ∙ length-append p (x ∷ rest) in omega (arith, m)))

pub under-within : (p q : Path) → is_under p q ≡ true → is_within p q ≡ true
under-within p q e = (and_parts (is_within p q) (nat_lt (length p) (length q)) e).0

pub not-under-itself : (p : Path) → is_under p p ≡ false
not-under-itself p = by (is_under p p) refl
  where
    by : (r : Bool) → is_under p p ≡ r → r ≡ false
    by false e = refl
    by true e = absurd (let l = ltb-true _ _ (and_parts (is_within p p) (nat_lt (length p) (length p)) e).1 in omega (arith, l))

-- what is at or below a path is the path, or below it
pub within-case : (p q : Path) → is_within p q ≡ true → is_under p q ≡ false → q ≡ p
within-case p q e n = by (drop (length p) q) (within-parts p q e)
  where
    by : (d : Path) → q ≡ p ++ d → q ≡ p
    by [] f = f ∙ append-nil p
    by (x ∷ rest) f = absurd (false≢true (sym n ∙ under-is p q x rest f))

-- ---- a tree's keys

path-itself : (p : Path) → eq_by_cmp path_cmp p p ≡ true
path-itself p = ap is_eq (tied_itself path_total p)

-- whether a key somewhere is marked, told by keys that are there
module _ (t : Tree) (where_is : Path → Bool) (p : Path) (begins : (q : Path) → where_is q ≡ true → (rest : Path) × (q ≡ p ++ rest)) where
  abbrev pub is_one : Path → Bool
  is_one q = where_is q && is_marked t q

  pub any-one : (q : Path) → IsSome (get t q) → is_one q ≡ true → list_any is_one (keys t) ≡ true
  any-one q some e =
      let r = any-at (eq_by_cmp path_cmp q) [] (keys t) (sym (contains_key-keys t q) ∙ some) in
      list_any_at is_one (keys t) r.0 [] r.1 (ap is_one (sym (path-is q _ r.2)) ∙ e)

  one-there : list_any is_one (keys t) ≡ true → (q : Path) × IsSome (get t q) × (is_one q ≡ true)
  one-there e =
      let r = any-at is_one [] (keys t) e in
      let q = get_or (keys t) r.0 [] in
      (q, contains_key-keys t q ∙ list_any_at (eq_by_cmp path_cmp q) (keys t) r.0 [] r.1 (path-itself q), r.2)

  pub any-told : (r : Bool) → (r ≡ true → (q : Path) × IsSome (get t (p ++ q)) × (where_is (p ++ q) ≡ true) × (is_marked t (p ++ q) ≡ true))
      → (r ≡ false → (q : Path) → IsSome (get t (p ++ q)) → where_is (p ++ q) ≡ true → is_marked t (p ++ q) ≡ false) → r ≡ list_any is_one (keys t)
  any-told true some none = let y = some refl in sym (any-one (p ++ y.0) y.1 (and_from (where_is (p ++ y.0)) (is_marked t (p ++ y.0)) y.2 y.3))
  any-told false some none = by (list_any is_one (keys t)) refl
    where
      by : (b : Bool) → list_any is_one (keys t) ≡ b → false ≡ b
      by false e = refl
      by true e =
          let o = one-there e in
          let both = and_parts (where_is o.0) (is_marked t o.0) o.2 in
          let b = begins o.0 both.0 in
          absurd (false≢true (sym (none refl b.0 (subst (λ q. IsSome (get t q)) b.1 o.1) (ap where_is (sym b.1) ∙ both.0)) ∙ (ap (is_marked t) (sym b.1) ∙ both.1)))
