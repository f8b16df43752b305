-- Names of the keys right below a path, in the order of their folded forms.
use Rattle.std.proofs.Common.{◌≡◌, ℕ, suc, ◌+◌, ◌≤◌, ◌<◌, ◌==◌, ◌||◌, ◌&&◌, arith, cond, Bool, true, false, Option, Some, None, List, [], ◌∷◌, ◌++◌}
use Rattle.std.proofs.Common.{map, is_some, refl, sym, ap, ◌∙◌, subst}
use Rattle.std.specs.List.{AllByRecursion, AllPairs, list_any}
use Rattle.std.specs.List.Sorted.{IsStrictlySortedBy}
use Rattle.std.specs.Ordering.{is_lt, is_eq, eq_by_cmp, nat_cmp, ordering_reverse}
use Rattle.std.specs.declared.cmp.Ordering.{Ordering}
use Rattle.std.specs.declared.cmp.Ordering.TheVariants.{Less, Equal, Greater}
use Rattle.std.specs.Cmp.Lexicographic.{slice_cmp, nat_list_cmp_total}
use Rattle.std.specs.FinMap.{get, contains_key}
use Rattle.std.proofs.lemmas.Bool.{true≢false, eqb-true}
use Rattle.std.proofs.lemmas.List.Elements.{recursion_from_All, All-from_recursion}
use Rattle.std.proofs.lemmas.List.MinMax.{ranks_by}
use Rattle.std.proofs.lemmas.List.Sorted.{sorted_far, All-permutation, sum_by-IsPermutation}
use Rattle.std.proofs.lemmas.List.Sums.{sum_by-cons}
use Rattle.reg_names.specs.Names.{folded, name_cmp}
use Rattle.reg_heap.specs.Paths.{Path, Tree, Rec, path_cmp, children_of}
use Rattle.reg_heap.proofs.ChildrenOfPath.{below, is_child-below, AreNamed, children-named, children-contain}
use Rattle.reg_shape.proofs.Refinement.RefinementAfterEdit.{name-self}
use Rattle.reg_shape.proofs.Refinement.RefinementOfChildren.{names-same, any-below}
use Rattle.reg_tree_image.specs.KeyListing.{AreInOrder, name_found, names_below}
use Rattle.reg_tree_image.proofs.WalkedBack.PathWalksNames.{is_called, one_for, one_if, times_called, name_in_rec, AreNames}

abbrev name_order : List ℕ → List ℕ → Ordering
name_order = slice_cmp nat_cmp

-- ---- names of which each is there once rise strictly

both-false : (x : List ℕ) (ys : List (List ℕ)) → AllByRecursion (λ y. is_lt (name_cmp y x) ≡ false) ys → times_called (folded x) ys ≡ 0 →
    AllByRecursion (λ c. name_order (folded x) c ≡ Less) (map folded ys)
both-false x [] low none = tt
both-false x (y ∷ ys) low none =
    let s = sum_by-cons (λ name. one_for (is_called (folded x) name)) y ys in (
      nat_list_cmp_total.antisymm (folded x) (folded y) ∙ above (name_cmp y x) low.0 (tied (name_cmp y x) refl),
      both-false x ys low.1 (omega
          (arith, s, none)),
    )
  where
    above : (o : Ordering) → is_lt o ≡ false → is_eq o ≡ false → ordering_reverse o ≡ Less
    above Less p q = absurd (true≢false p)
    above Equal p q = absurd (true≢false q)
    above Greater p q = refl

    other : (b : Bool) → is_called (folded x) y ≡ b → b ≡ false
    other true e =
        let s = sum_by-cons (λ name. one_for (is_called (folded x) name)) y ys in
        let one : one_for (is_called (folded x) y) ≡ 1 = ap one_for e in
        absurd (omega (arith, s, none, one))
    other false e = refl

    tied : (o : Ordering) → name_cmp y x ≡ o → is_eq o ≡ false
    tied o e =
        ap is_eq (sym e) ∙ (by (name_cmp y x) ∙ (ap is_eq (sym (nat_list_cmp_total.antisymm (folded x) (folded y))) ∙ other (is_called (folded x) y) refl))
      where
        by : (o : Ordering) → is_eq o ≡ is_eq (ordering_reverse o)
        by Less = refl
        by Equal = refl
        by Greater = refl

rise : (names : List (List ℕ)) → AllPairs (λ a b. is_lt (name_cmp b a) ≡ false) names → ((c : List ℕ) → times_called c names ≤ 1) →
    IsStrictlySortedBy name_order (map folded names)
unfolding IsStrictlySortedBy
rise [] far few = tt
rise (x ∷ xs) far few =
    let low : AllByRecursion (λ y. is_lt (name_cmp y x) ≡ false) xs =
    recursion_from_All (λ y. is_lt (name_cmp y x) ≡ false) xs (λ j d inside. far 0 (suc j) d (omega arith) (omega arith)) in
    (both-false x xs low (none (few (folded x))), rise xs (λ i j d below inside. far (suc i) (suc j) d (omega arith) (omega arith)) (λ c. fewer c (few c)))
  where
    none : times_called (folded x) (x ∷ xs) ≤ 1 → times_called (folded x) xs ≡ 0
    none f =
        let s = sum_by-cons (λ name. one_for (is_called (folded x) name)) x xs in
        let one : one_for (is_called (folded x) x) ≡ 1 = ap one_for (name-self (folded x)) in
        omega (arith, s, one, f)

    fewer : (c : List ℕ) → times_called c (x ∷ xs) ≤ 1 → times_called c xs ≤ 1
    fewer c f = let s = sum_by-cons (λ name. one_for (is_called c name)) x xs in omega (arith, s, f)

-- ---- which they are

some-called : (c : List ℕ) (names : List (List ℕ)) → list_any (eq_by_cmp name_order c) (map folded names) ≡ cond (times_called c names == 0) false true
some-called c [] = refl
some-called c (x ∷ xs) =
    by (is_called c x) (times_called c xs) (some-called c xs) ∙ ap (λ n. cond (n == 0) false true) (sym (sum_by-cons (λ name. one_for
    (is_called c name)) x xs))
  where
    by : (b : Bool) (n : ℕ) → list_any (eq_by_cmp name_order c) (map folded xs) ≡ cond (n == 0) false true →
        (b || list_any (eq_by_cmp name_order c) (map folded xs)) ≡ cond (one_for b + n == 0) false true
    by true n e = nonzero (one_for true + n) (omega arith)
      where
        nonzero : (m : ℕ) → 0 < m → true ≡ cond (m == 0) false true
        nonzero m l = which (m == 0) refl
          where
            which : (z : Bool) → (m == 0) ≡ z → true ≡ cond z false true
            which true z = let a = eqb-true m 0 z in absurd (omega (arith, a, l))
            which false z = refl
    by false n e = e ∙ ap (λ (m : ℕ). cond (m == 0) false true) (same n)
      where
        same : (n : ℕ) → n ≡ 0 + n
        same n = omega arith

module _ (t : Tree) (p : Path) (names sorted : List (List ℕ)) (are : AreNames (λ c. get t (p ++ c ∷ [])) names) (order : AreInOrder names sorted) where
  counted : (c : List ℕ) → times_called c sorted ≡ one_if (get t (p ++ c ∷ []))
  counted c = sum_by-IsPermutation (λ name. one_for (is_called c name)) names sorted order.moved ∙ are.counts c

  few : (c : List ℕ) → times_called c sorted ≤ 1
  few c = subst (λ n. n ≤ 1) (sym (counted c)) (by (get t (p ++ c ∷ [])))
    where
      by : (o : Option Rec) → one_if o ≤ 1
      by None = omega arith
      by (Some rec) = omega arith

  rising : IsStrictlySortedBy name_order (map folded sorted)
  rising = rise sorted (λ i j d below inside. sorted_far (λ a b. is_lt (name_cmp a b)) (ranks_by nat_list_cmp_total folded) sorted order.rising i j d
      (omega arith) inside) few

  same-names : (c : AreNamed p (children_of t p)) (x : List ℕ) → list_any (eq_by_cmp name_order x) (map folded sorted) ≡ list_any
      (eq_by_cmp name_order x) c.names
  same-names c x =
      some-called x sorted ∙ (ap (λ n. cond (n == 0) false true) (counted x) ∙ (by (get t (p ++ x ∷ [])) ∙ sym
      (sym (any-below p x c.names)
      ∙ (ap (list_any (eq_by_cmp path_cmp (below p x))) (sym c.are)
      ∙ (children-contain t p (below p x)
      ∙ ap (λ b. b && contains_key t (below p x)) (is_child-below p x))))))
    where
      by : (o : Option Rec) → cond (one_if o == 0) false true ≡ is_some o
      by None = refl
      by (Some rec) = refl

  told : (xs : List (List ℕ)) → AllByRecursion (λ name. name_in_rec (get t (p ++ folded name ∷ [])) ≡ Some name) xs →
      xs ≡ map (λ child. name_found (get t child)) (map (below p) (map folded xs))
  told [] a = refl
  told (x ∷ xs) a =
      ap (λ y. y ∷ xs) (by (get t (p ++ folded x ∷ [])) a.0) ∙ ap (λ ys. name_found (get t (below p (folded x))) ∷ ys) (told xs a.1)
    where
      by : (o : Option Rec) → name_in_rec o ≡ Some x → x ≡ name_found o
      by None e = absurd (cc)
      by (Some rec) e = cc

  -- they are those of the tree's keys there, in their order
  pub sorted-names : sorted ≡ names_below t p
  sorted-names =
      let c = children-named t p in
      let each = λ (name : List ℕ). name_in_rec (get t (p ++ folded name ∷ [])) ≡ Some name in
      told sorted (recursion_from_All each sorted (All-permutation each names sorted order.moved (All-from_recursion each names are.each)))
      ∙ ap (map (λ child. name_found (get t child)))
      (ap (map (below p)) (names-same (map folded sorted) c.names rising c.rising (same-names c)) ∙ sym c.are)
