-- A stable sort by a number gives the one list in which the numbers rise and what has one number stays in its order.
use Rattle.std.proofs.Common.{◌≡◌, ℕ, zero, suc, ◌<◌, ◌≤◌, Bool, true, false, cond, List, [], ◌∷◌, map, length, get_or, filter, nat_cmp, is_lt, refl, sym, ap, ◌∙◌, arith, inl, inr, suc-le-suc, zero-le}
use Rattle.std.specs.Prelude.{nat_le, if◌then◌else◌}
use Rattle.std.proofs.lemmas.Bool.{cond-true, cond-false, cases_Bool}
use Rattle.std.proofs.lemmas.Bool.Decides.{nat_tests}
use Rattle.std.specs.List.Sorted.{ties, IsNonDecreasingBy, IsStableByKey}
use Rattle.reg_tables.specs.declared.timeline.TimedKey.{TimedKey}
use Rattle.reg_tables.specs.Timelines.{Timed, placed, in_order, by_time, timed}

either : {A : Type 0} (P : A → Type 0) (b : Bool) (x y : A) → (b ≡ true → P x) → (b ≡ false → P y) → P (if b then x else y)
either P true x y t f = t refl
either P false x y t f = f refl

le_of : (a b : ℕ) → nat_le a b ≡ true → a ≤ b
le_of a b e = grind (arith, nat_tests, e)

above : (a b : ℕ) → nat_le a b ≡ false → b < a
above a b e = grind (arith, nat_tests, e)

ties_at : (m n : ℕ) → (ties (λ x y. is_lt (nat_cmp x y)) m n ≡ true → m ≡ n) × (m ≡ n → ties (λ x y. is_lt (nat_cmp x y)) m n ≡ true)
ties_at m n = (λ h. grind (arith, nat_tests), λ h. grind (arith, nat_tests))

module _ {X : Type 0} (number : X → ℕ) where
  abbrev is_tied : X → X → Bool
  is_tied = ties (λ x y. is_lt (nat_cmp (number x) (number y)))

  tied-same : (x y : X) → is_tied x y ≡ true → number x ≡ number y
  tied-same x y = (ties_at (number x) (number y)).0

  tied_from : (x y : X) → number x ≡ number y → is_tied x y ≡ true
  tied_from x y = (ties_at (number x) (number y)).1

  filter-kept : (p : X → Bool) (y : X) (ys : List X) → p y ≡ true → filter p (y ∷ ys) ≡ y ∷ filter p ys
  filter-kept p y ys h = cond-true _ _ _ h

  filter-dropped : (p : X → Bool) (y : X) (ys : List X) → p y ≡ false → filter p (y ∷ ys) ≡ filter p ys
  filter-dropped p y ys h = cond-false _ _ _ h

  placed-first : (x y : X) (ys : List X) → nat_le (number x) (number y) ≡ true → placed number x (y ∷ ys) ≡ x ∷ y ∷ ys
  placed-first x y ys e = ap (λ (b : Bool). if b then x ∷ y ∷ ys else y ∷ placed number x ys) e

  placed-past : (x y : X) (ys : List X) → nat_le (number x) (number y) ≡ false → placed number x (y ∷ ys) ≡ y ∷ placed number x ys
  placed-past x y ys e = ap (λ (b : Bool). if b then x ∷ y ∷ ys else y ∷ placed number x ys) e

  -- ---- what is tied with something stays in its order

  filter-placed : (x c : X) (ds : List X) → filter (is_tied x) (placed number c ds) ≡ filter (is_tied x) (c ∷ ds)
  filter-placed x c [] = refl
  filter-placed x c (d ∷ ds) =
      let p = is_tied x in
      elim (cases_Bool (nat_le (number c) (number d))) [
        | inl first ↦ ap (filter p) (placed-first c d ds first)
        | inr past ↦
            ap (filter p) (placed-past c d ds past)
            ∙ elim (cases_Bool (p d)) [
              | inr without ↦
                  filter-dropped p d (placed number c ds) without ∙ filter-placed x c ds
                  ∙ ap (λ l. cond (p c) (c ∷ l) l) (sym (filter-dropped p d ds without))
              | inl with ↦
                  elim (cases_Bool (p c)) [
                    | inl both ↦ absurd (omega (arith, above (number c) (number d) past, tied-same x c both, tied-same x d with))
                    | inr only ↦
                        filter-kept p d (placed number c ds) with ∙ ap (λ l. d ∷ l) (filter-placed x c ds ∙ filter-dropped p c ds only)
                        ∙ sym (filter-dropped p c (d ∷ ds) only ∙ filter-kept p d ds with)
                  ]
            ]
      ]

  filter-in_order : (x : X) (cs : List X) → filter (is_tied x) (in_order number cs) ≡ filter (is_tied x) cs
  filter-in_order x [] = refl
  filter-in_order x (c ∷ cs) = filter-placed x c (in_order number cs) ∙ ap (λ l. cond (is_tied x c) (c ∷ l) l) (filter-in_order x cs)

  -- ---- the numbers rise

  abbrev AreAtLeast : ℕ → List X → Type 0
  AreAtLeast m [] = Unit {0}
  AreAtLeast m (y ∷ ys) = (m ≤ number y) × AreAtLeast m ys

  abbrev Rises : List X → Type 0
  Rises [] = Unit {0}
  Rises (y ∷ ys) = AreAtLeast (number y) ys × Rises ys

  AreAtLeast-le : (m k : ℕ) (ys : List X) → m ≤ k → AreAtLeast k ys → AreAtLeast m ys
  AreAtLeast-le m k [] le h = tt
  AreAtLeast-le m k (y ∷ ys) le h = let first = h.0 in (omega arith, AreAtLeast-le m k ys le h.1)

  AreAtLeast-at : (m : ℕ) (ys : List X) (d : X) → ((j : ℕ) → j < length ys → m ≤ number (get_or ys j d)) → AreAtLeast m ys
  AreAtLeast-at m [] d h = tt
  AreAtLeast-at m (y ∷ ys) d h = (h zero (suc-le-suc zero-le), AreAtLeast-at m ys d (λ j lt. h (suc j) (suc-le-suc lt)))

  Rises-from_sort : (ys : List X) → IsNonDecreasingBy number ys → Rises ys
  Rises-from_sort [] h = tt
  Rises-from_sort (y ∷ ys) h = (
    AreAtLeast-at (number y) ys y (λ j lt. h zero (suc j) y zero-le (suc-le-suc lt)),
    Rises-from_sort ys (λ i j d le lt. h (suc i) (suc j) d (suc-le-suc le) (suc-le-suc lt)),
  )

  AreAtLeast-placed : (m : ℕ) (x : X) (ys : List X) → m ≤ number x → AreAtLeast m ys → AreAtLeast m (placed number x ys)
  AreAtLeast-placed m x [] le h = (le, tt)
  AreAtLeast-placed m x (y ∷ ys) le h =
      either (AreAtLeast m) (nat_le (number x) (number y)) (x ∷ y ∷ ys) (y ∷ placed number x ys) (λ e. (le, h))
      (λ e. (h.0, AreAtLeast-placed m x ys le h.1))

  Rises-placed : (x : X) (ys : List X) → Rises ys → Rises (placed number x ys)
  Rises-placed x [] h = (tt, tt)
  Rises-placed x (y ∷ ys) h =
      either Rises (nat_le (number x) (number y)) (x ∷ y ∷ ys) (y ∷ placed number x ys)
      (λ e. let le = le_of (number x) (number y) e in ((le, AreAtLeast-le (number x) (number y) ys le h.0), h))
      (λ e. let lt = above (number x) (number y) e in (AreAtLeast-placed (number y) x ys (omega arith) h.0, Rises-placed x ys h.1))

  Rises-in_order : (xs : List X) → Rises (in_order number xs)
  Rises-in_order [] = tt
  Rises-in_order (x ∷ xs) = Rises-placed x (in_order number xs) (Rises-in_order xs)

  -- ---- there is one such list

  AreAtLeast-found : (m : ℕ) (x : X) (ys : List X) (w : X) (ws : List X) → AreAtLeast m ys → filter (is_tied x) ys ≡ w ∷ ws → m ≤ number x
  AreAtLeast-found m x [] w ws h e = cc
  AreAtLeast-found m x (y ∷ ys) w ws h e =
      elim (cases_Bool (is_tied x y)) [
        | inl with ↦ omega (arith, h.0, tied-same x y with)
        | inr without ↦ AreAtLeast-found m x ys w ws h.1 (sym (filter-dropped (is_tied x) y ys without) ∙ e)
      ]

  one_order : (ys zs : List X) → Rises ys → Rises zs → ((x : X) → filter (is_tied x) ys ≡ filter (is_tied x) zs) → ys ≡ zs
  one_order [] [] left right same = refl
  one_order [] (z ∷ zs) left right same = let clash = same z ∙ filter-kept (is_tied z) z zs (tied_from z z refl) in cc
  one_order (y ∷ ys) [] left right same = let clash = sym (same y) ∙ filter-kept (is_tied y) y ys (tied_from y y refl) in cc
  one_order (y ∷ ys) (z ∷ zs) left right same =
      let at_y = filter-kept (is_tied y) y ys (tied_from y y refl) in
      let at_z = filter-kept (is_tied z) z zs (tied_from z z refl) in
      let up = AreAtLeast-found (number z) y (z ∷ zs) y _ (omega arith, right.0) (sym (same y) ∙ at_y) in
      let down = AreAtLeast-found (number y) z (y ∷ ys) z _ (omega arith, left.0) (same z ∙ at_z) in
      let heads = sym at_y ∙ same y ∙ filter-kept (is_tied y) z zs (tied_from y z (omega arith)) in
      let head : y ≡ z = cc in
      let tails : (x : X) → filter (is_tied x) ys ≡ filter (is_tied x) zs =
      λ x. elim (cases_Bool (is_tied x y)) [
        | inl with ↦
            let both = sym (filter-kept (is_tied x) y ys with) ∙ same x ∙ filter-kept (is_tied x) z zs (ap (is_tied x) (sym head) ∙ with) in cc
        | inr without ↦
            sym (filter-dropped (is_tied x) y ys without) ∙ same x ∙ filter-dropped (is_tied x) z zs (ap (is_tied x) (sym head) ∙ without)
      ] in
      ap (λ w. w ∷ ys) head ∙ ap (λ l. z ∷ l) (one_order ys zs left.1 right.1 tails)

  in_order-from_sort : (xs ys : List X) → IsNonDecreasingBy number ys → IsStableByKey number nat_cmp xs ys → ys ≡ in_order number xs
  in_order-from_sort xs ys sorted stable =
      one_order ys (in_order number xs) (Rises-from_sort ys sorted) (Rises-in_order xs) (λ x. stable x ∙ sym (filter-in_order x xs))

-- ---- the same of what is seen of each

module _ {X Y : Type 0} (view : X → Y) (number : Y → ℕ) where
  abbrev number_of : X → ℕ
  number_of x = number (view x)

  map-placed : (x : X) (xs : List X) → map view (placed number_of x xs) ≡ placed number (view x) (map view xs)
  map-placed x [] = refl
  map-placed x (y ∷ ys) =
      elim (nat_le (number_of x) (number_of y)) as
      (λ b. map view (if b then x ∷ y ∷ ys else y ∷ placed number_of x ys)
      ≡ (if b then view x ∷ view y ∷ map view ys else view y ∷ placed number (view x) (map view ys))) [
        | true ↦ refl
        | false ↦ ap (λ l. view y ∷ l) (map-placed x ys)
      ]

  map-in_order : (xs : List X) → map view (in_order number_of xs) ≡ in_order number (map view xs)
  map-in_order [] = refl
  map-in_order (x ∷ xs) = map-placed x (in_order number_of xs) ∙ ap (placed number (view x)) (map-in_order xs)

pub ordered-told : (xs ys : List TimedKey) → IsNonDecreasingBy (λ (key : TimedKey). key.time) ys → IsStableByKey (λ (key : TimedKey). key.time) nat_cmp xs ys →
    map timed ys ≡ by_time (map timed xs)
ordered-told xs ys sorted stable =
    ap (map timed) (in_order-from_sort (λ (key : TimedKey). key.time) xs ys sorted stable) ∙ map-in_order timed (λ (key : Timed). key.time) xs
