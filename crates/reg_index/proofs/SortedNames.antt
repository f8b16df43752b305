-- Names in order: a search among them, one more, and one less.
use Rattle.std.proofs.Common.{◌≡◌, ℕ, suc, ◌+◌, ◌-◌, ◌<◌, ◌≤◌, ◌==◌, refl, sym, Bool, true, false, List, [], ◌∷◌, ◌++◌, ap, ◌∙◌, arith, rules, take, drop, length, get_or, Err, inl, inr}
use Rattle.std.proofs.lemmas.List.{get_or-take, get_or-drop, get_or_append_left, get_or-append_right, length-append, length-take-le, length-drop}
use Rattle.std.proofs.lemmas.Bool.{cases_lt, eqb-true, eqb-false}
use Rattle.std.proofs.lemmas.Bool.Decides.{nat_tests}
use Rattle.std.proofs.lemmas.Cmp.{nat_list_cmp_total}
use Rattle.std.specs.Ordering.{nat_cmp, ordering_then, ordering_reverse}
use Rattle.std.specs.declared.cmp.Ordering.{Ordering}
use Rattle.std.specs.declared.cmp.Ordering.TheVariants.{Less, Equal, Greater}
use Rattle.std.specs.Cmp.Lexicographic.{slice_cmp}
use Rattle.reg_index.specs.Subkeys.{Rises, IsIndexFor}
use Rattle.reg_index.specs.Internal.NameSearches.{Between}

abbrev Name : Type 0
Name = List ℕ

abbrev order : Name → Name → Ordering
order = slice_cmp nat_cmp

order-trans : (x y z : Name) → order x y ≡ Less → order y z ≡ Less → order x z ≡ Less
order-trans = nat_list_cmp_total.trans

pub order-back : (x y : Name) → slice_cmp nat_cmp x y ≡ Greater → slice_cmp nat_cmp y x ≡ Less
order-back x y e = nat_list_cmp_total.antisymm y x ∙ ap ordering_reverse e

then-equal : (x y : ℕ) (r : Ordering) → ordering_then (nat_cmp x y) r ≡ Equal → (x ≡ y) × (r ≡ Equal)
then-equal x y Less e = grind (arith, nat_tests)
then-equal x y Equal e = grind (arith, nat_tests)
then-equal x y Greater e = grind (arith, nat_tests)

pub order-same : (x y : Name) → slice_cmp nat_cmp x y ≡ Equal → x ≡ y
order-same [] [] e = refl
order-same [] (y ∷ ys) e = absurd (search rules)
order-same (x ∷ xs) [] e = absurd (search rules)
order-same (x ∷ xs) (y ∷ ys) e = let p = then-equal x y (slice_cmp nat_cmp xs ys) e in λ i. p.0 i ∷ order-same xs ys p.1 i

-- ---- a search: how far it has come

module _ (names : List Name) (name : Name) (low high middle : ℕ) (rises : Rises names) (so_far : Between names name low high) (from : low ≤ middle) (to : middle < high) where
  -- the name at the middle comes before
  pub to_right : slice_cmp nat_cmp (get_or names middle []) name ≡ Less → Between names name (middle + 1) high
  to_right e = record {
    order_is = omega arith;
    within = so_far.within;
    before = λ k l. by k l (k == middle) refl;
    behind = so_far.behind;
  }
    where
      by : (k : ℕ) → k < middle + 1 → (t : Bool) → (k == middle) ≡ t → order (get_or names k []) name ≡ Less
      by k l true i = ap (λ k. order (get_or names k []) name) (eqb-true k middle i) ∙ e
      by k l false i =
          let n = eqb-false k middle i in
          let w = so_far.within in
          order-trans (get_or names k []) (get_or names middle []) name (rises k middle (omega arith) (omega arith)) e

  -- the name at the middle comes behind
  pub to_left : slice_cmp nat_cmp name (get_or names middle []) ≡ Less → Between names name low middle
  to_left e =
      let w = so_far.within in
      record {
        order_is = from;
        within = omega arith;
        before = so_far.before;
        behind = λ k m l. by k m l (k == middle) refl;
      }
    where
      by : (k : ℕ) → middle ≤ k → k < length names → (t : Bool) → (k == middle) ≡ t → order name (get_or names k []) ≡ Less
      by k m l true i = ap (λ k. order name (get_or names k [])) (eqb-true k middle i) ∙ e
      by k m l false i = let n = eqb-false k middle i in order-trans name (get_or names middle []) (get_or names k []) e (rises middle k (omega arith) l)

  -- the name at the middle doesn't come behind
  pub to_here : (slice_cmp nat_cmp (get_or names middle []) name ≡ Greater → ⊥) → Between names name middle high
  to_here n =
      let o = so_far.order_is in
      record {
        order_is = omega (arith, to);
        within = so_far.within;
        before = λ k l. by k l (slice_cmp nat_cmp (get_or names middle []) name) refl;
        behind = so_far.behind;
      }
    where
      by : (k : ℕ) → k < middle → (r : Ordering) → slice_cmp nat_cmp (get_or names middle []) name ≡ r → order (get_or names k []) name ≡ Less
      by k l Less e = let w = so_far.within in order-trans (get_or names k []) (get_or names middle []) name (rises k middle l (omega arith)) e
      by k l Equal e = let w = so_far.within in ap (order (get_or names k [])) (sym (order-same (get_or names middle []) name e)) ∙ rises k middle l (omega arith)
      by k l Greater e = absurd (n e)

-- ---- one name more

abbrev pub added : ℕ → List ℕ → List (List ℕ) → List (List ℕ)
added i x names = take i names ++ x ∷ drop i names

module _ (names : List Name) (i : ℕ) (x : Name) (w : i ≤ length names) where
  front : length (take i names) ≡ i
  front = length-take-le i names w

  length-added : length (added i x names) ≡ suc (length names)
  length-added = omega (arith, front, length-append (take i names) (x ∷ drop i names), length-drop i names)

  get-before : (k : ℕ) → k < i → get_or (added i x names) k [] ≡ get_or names k []
  get-before k l = let f = front in get_or_append_left (take i names) (x ∷ drop i names) [] k (omega arith) ∙ get_or-take i names k [] l

  get-here : get_or (added i x names) i [] ≡ x
  get-here = let f = front in get_or-append_right (take i names) (x ∷ drop i names) i i [] f (omega arith) ∙ ap (λ k. get_or (x ∷ drop i names) k []) {x = i - i} {y = 0} (omega arith)

  get-behind : (k : ℕ) → i ≤ k → get_or (added i x names) (suc k) [] ≡ get_or names k []
  get-behind k l =
      let f = front in
      get_or-append_right (take i names) (x ∷ drop i names) i (suc k) [] f (omega arith)
      ∙ (ap (λ k. get_or (x ∷ drop i names) k []) {x = suc k - i} {y = suc (k - i)} (omega arith) ∙ (get_or-drop i names (k - i) [] ∙ ap (λ k. get_or names k []) (omega arith)))

  both : (a b : ℕ) (y z : Name) → get_or (added i x names) a [] ≡ y → get_or (added i x names) b [] ≡ z → order y z ≡ Less →
      order (get_or (added i x names) a []) (get_or (added i x names) b []) ≡ Less
  both a b y z e f l = (λ j. order (e j) (f j)) ∙ l

  past : (k : ℕ) → i < k → get_or (added i x names) k [] ≡ get_or names (k - 1) []
  past k l = ap (λ n. get_or (added i x names) n []) {x = k} {y = suc (k - 1)} (omega arith) ∙ get-behind (k - 1) (omega arith)

  at : (k : ℕ) → k ≡ i → get_or (added i x names) k [] ≡ x
  at k e = ap (λ n. get_or (added i x names) n []) e ∙ get-here

  pub rises-added : Rises names → IsIndexFor names x (Err i) → Rises (take i names ++ x ∷ drop i names)
  rises-added r p a b l m =
      let n = length-added in
      elim (cases_lt b i) [
        | inl f ↦ both a b _ _ (get-before a (omega arith)) (get-before b f) (r a b l (omega arith))
        | inr f ↦ elim (cases_lt i b) [
          | inl g ↦ elim (cases_lt a i) [
            | inl h ↦ both a b _ _ (get-before a h) (past b g) (r a (b - 1) (omega arith) (omega arith))
            | inr h ↦ elim (cases_lt i a) [
              | inl k ↦ both a b _ _ (past a k) (past b g) (r (a - 1) (b - 1) (omega arith) (omega arith))
              | inr k ↦ both a b _ _ (at a (omega arith)) (past b g) (p.2 (b - 1) (omega arith) (omega arith))
            ]
          ]
          | inr g ↦ both a b _ _ (get-before a (omega arith)) (at b (omega arith)) (p.1 a (omega arith))
        ]
      ]

-- ---- one name less

abbrev left_of : ℕ → List Name → List Name
left_of i names = take i names ++ drop (i + 1) names

module _ (names : List Name) (i : ℕ) (w : i < length names) where
  kept : length (take i names) ≡ i
  kept = length-take-le i names (omega arith)

  length-left : suc (length (left_of i names)) ≡ length names
  length-left = omega (arith, kept, length-append (take i names) (drop (i + 1) names), length-drop (i + 1) names)

  left-before : (k : ℕ) → k < i → get_or (left_of i names) k [] ≡ get_or names k []
  left-before k l = let f = kept in get_or_append_left (take i names) (drop (i + 1) names) [] k (omega arith) ∙ get_or-take i names k [] l

  left-behind : (k : ℕ) → i ≤ k → get_or (left_of i names) k [] ≡ get_or names (k + 1) []
  left-behind k l = let f = kept in get_or-append_right (take i names) (drop (i + 1) names) i k [] f l ∙ (get_or-drop (i + 1) names (k - i) [] ∙ ap (λ k. get_or names k []) (omega arith))

  pub rises-left : Rises names → Rises (take i names ++ drop (i + 1) names)
  rises-left r a b l m =
      let n = length-left in
      elim (cases_lt b i) [
        | inl f ↦ (λ j. order (left-before a (omega arith) j) (left-before b f j)) ∙ r a b l (omega arith)
        | inr f ↦ elim (cases_lt a i) [
          | inl g ↦ (λ j. order (left-before a g j) (left-behind b f j)) ∙ r a (b + 1) (omega arith) (omega arith)
          | inr g ↦ (λ j. order (left-behind a g j) (left-behind b f j)) ∙ r (a + 1) (b + 1) (omega arith) (omega arith)
        ]
      ]
