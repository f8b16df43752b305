-- Names that are just those of the keys right below a path.
use Rattle.std.proofs.Common.{◌≡◌, ℕ, ◌+◌, arith, cond, Bool, true, false, Option, Some, None, List, [], ◌∷◌, ◌++◌, refl, sym, ap, ◌∙◌}
use Rattle.std.specs.List.{AllByRecursion, sum_by}
use Rattle.std.specs.Option.{option_map}
use Rattle.std.specs.Ordering.{is_eq, eq_by_cmp, nat_cmp}
use Rattle.std.specs.Cmp.Lexicographic.{slice_cmp}
use Rattle.std.specs.FinMap.{find}
use Rattle.std.proofs.lemmas.List.Sums.{sum_by-append, sum_by-cons}
use Rattle.reg_names.specs.Names.{folded}
use Rattle.reg_heap.specs.Paths.{Path, Rec, path_cmp}
use Rattle.reg_heap.proofs.ChildrenOfPath.{path_cmp-below}
use Rattle.reg_shape.proofs.Refinement.RefinementAfterEdit.{name-self}
use Rattle.reg_tree_image.proofs.WalkedBack.BackSteps.{all-both}
use Rattle.reg_tree_image.proofs.WalkedBack.PathWalksTold.{Told, all-as}

-- a name, folded, is that one
abbrev pub is_called : List ℕ → List ℕ → Bool
is_called c name = eq_by_cmp (slice_cmp nat_cmp) c (folded name)

abbrev pub one_for : Bool → ℕ
one_for true = 1
one_for false = 0

abbrev pub one_if : Option Rec → ℕ
one_if None = 0
one_if (Some rec) = 1

-- how many of these names are that one, folded
abbrev pub times_called : List ℕ → List (List ℕ) → ℕ
times_called c names = sum_by (λ name. one_for (is_called c name)) names

abbrev pub name_in_rec : Option Rec → Option (List ℕ)
name_in_rec found = option_map (λ (rec : Rec). rec.name) found

-- of the keys right below a path, each by its folded name, these are the names, each once
pub record AreNames (below : List ℕ → Option Rec) (names : List (List ℕ)) : Type 0 where
  pub counts : (c : List ℕ) → times_called c names ≡ one_if (below c)
  pub each : AllByRecursion (λ name. name_in_rec (below (folded name)) ≡ Some name) names

pub names-as : (f g : List ℕ → Option Rec) (names : List (List ℕ)) → AreNames f names → ((c : List ℕ) → g c ≡ f c) → AreNames g names
names-as f g names a same = record {
  counts = λ c. a.counts c ∙ ap one_if (sym (same c));
  each = all-as (λ name. name_in_rec (f (folded name)) ≡ Some name) (λ name. name_in_rec (g (folded name)) ≡ Some name)
      (λ name e. ap name_in_rec (same (folded name)) ∙ e) names a.each;
}

pub names-none : (f : List ℕ → Option Rec) → ((c : List ℕ) → f c ≡ None) → AreNames f []
names-none f none = record { counts = λ c. ap one_if (sym (none c)); each = tt }

-- the keys of one piece, and those of another, of which none has the name of one of those
pub names-join : (f g h : List ℕ → Option Rec) (xs ys : List (List ℕ)) → ((c : List ℕ) → f c ≡ None → h c ≡ g c) →
    ((c : List ℕ) (rec : Rec) → f c ≡ Some rec → (h c ≡ Some rec) × (g c ≡ None)) → AreNames f xs → AreNames g ys → AreNames h (xs ++ ys)
names-join f g h xs ys later first a b = record {
  counts = λ c. by c (f c) refl;
  each = all-both (λ name. name_in_rec (h (folded name)) ≡ Some name) xs ys
      (all-as (λ name. name_in_rec (f (folded name)) ≡ Some name) (λ name. name_in_rec (h (folded name)) ≡ Some name) (λ name e. of-first name (f
      (folded name)) refl e) xs a.each)
      (all-as (λ name. name_in_rec (g (folded name)) ≡ Some name) (λ name. name_in_rec (h (folded name)) ≡ Some name) (λ name e. of-second name (f
      (folded name)) refl e) ys b.each);
}
  where
    by : (c : List ℕ) (o : Option Rec) → f c ≡ o → times_called c (xs ++ ys) ≡ one_if (h c)
    by c None e =
        let s = sum_by-append (λ name. one_for (is_called c name)) xs ys in
        let x : times_called c xs ≡ 0 = a.counts c ∙ ap one_if e in
        let y : times_called c ys ≡ one_if (h c) = b.counts c ∙ ap one_if (sym (later c e)) in
        omega (arith, s, x, y)
    by c (Some rec) e =
        let s = sum_by-append (λ name. one_for (is_called c name)) xs ys in
        let x : times_called c xs ≡ 1 = a.counts c ∙ ap one_if e in
        let y : times_called c ys ≡ 0 = b.counts c ∙ ap one_if (first c rec e).1 in
        let z : one_if (h c) ≡ 1 = ap one_if (first c rec e).0 in
        omega (arith, s, x, y, z)

    of-first : (name : List ℕ) (o : Option Rec) → f (folded name) ≡ o → name_in_rec (f (folded name)) ≡ Some name → name_in_rec (h (folded name)) ≡ Some name
    of-first name None q e = let n = ap name_in_rec (sym q) ∙ e in absurd (cc)
    of-first name (Some rec) q e = ap name_in_rec ((first (folded name) rec q).0 ∙ sym q) ∙ e

    of-second : (name : List ℕ) (o : Option Rec) → f (folded name) ≡ o → name_in_rec (g (folded name)) ≡ Some name → name_in_rec (h (folded name)) ≡ Some name
    of-second name None q e = ap name_in_rec (later (folded name) q) ∙ e
    of-second name (Some rec) q e = let n = ap name_in_rec (sym (first (folded name) rec q).1) ∙ e in absurd (cc)

-- one key, below which no key is right below the path
pub names-one : (p : Path) (name : List ℕ) (rec : Rec) (kids : Told) → rec.name ≡ name → ((c : List ℕ) → find path_cmp (p ++ c ∷ []) kids ≡ None) →
    AreNames (λ c. find path_cmp (p ++ c ∷ []) ((p ++ folded name ∷ [], rec) ∷ kids)) (name ∷ [])
names-one p name rec kids called none = record {
  counts = λ c. sum_by-cons (λ name. one_for (is_called c name)) name [] ∙ by c (is_called c name) refl;
  each = (ap name_in_rec (found (folded name)) ∙ (ap (λ b. name_in_rec (cond b (Some rec) None)) (name-self (folded name)) ∙ ap Some called), tt);
}
  where
    found : (c : List ℕ) → find path_cmp (p ++ c ∷ []) ((p ++ folded name ∷ [], rec) ∷ kids) ≡ cond (is_called c name) (Some rec) None
    found c = ap (λ o. cond (is_eq o) (Some rec) (find path_cmp (p ++ c ∷ []) kids)) (path_cmp-below p c (folded name)) ∙ ap (cond (is_called c name)
        (Some rec)) (none c)

    by : (c : List ℕ) (b : Bool) → is_called c name ≡ b → one_for (is_called c name) + 0 ≡ one_if (find path_cmp (p ++ c ∷ [])
        ((p ++ folded name ∷ [], rec) ∷ kids))
    by c true e = ap (λ b. one_for b + 0) e ∙ sym (ap one_if (found c) ∙ ap (λ b. one_if (cond b (Some rec) None)) e)
    by c false e = ap (λ b. one_for b + 0) e ∙ sym (ap one_if (found c) ∙ ap (λ b. one_if (cond b (Some rec) None)) e)
