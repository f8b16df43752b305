-- Paths in their order: those with the same first names, and the paths right below one.
use Rattle.std.proofs.Common.{◌≡◌, ◌⊎◌, inl, inr, ℕ, zero, suc, ◌<◌, ◌&&◌, ◌||◌, Bool, true, false, IsSome, List, [], ◌∷◌, ◌++◌, length, get_or, refl, sym, ap, ◌∙◌, arith}
use Rattle.std.specs.List.{AllByRecursion, list_any}
use Rattle.std.specs.List.Sorted.{IsStrictlySortedBy}
use Rattle.std.specs.Ordering.{nat_cmp, ordering_then, ordering_reverse, is_eq, eq_by_cmp}
use Rattle.std.specs.declared.cmp.Ordering.{Ordering}
use Rattle.std.specs.declared.cmp.Ordering.TheVariants.{Less, Equal, Greater}
use Rattle.std.specs.Cmp.Lexicographic.{slice_cmp, nat_list_cmp_total}
use Rattle.std.specs.FinMap.{get, contains_key}
use Rattle.std.proofs.lemmas.Bool.{cases_lt, false≢true, and_parts}
use Rattle.std.proofs.lemmas.List.Folds.{list_any_at}
use Rattle.std.proofs.lemmas.Cmp.{tied_itself}
use Rattle.std.proofs.lemmas.List.{get_or-map, length-map}
use Rattle.reg_heap.specs.Paths.{Path, Tree, path_cmp, is_child, children_of}
use Rattle.reg_heap.proofs.ChildrenOfPath.{below, path-is, path_cmp-below, is_child-below, AreNamed, children-named, children-contain}
use Rattle.reg_shape.proofs.Refinement.SpeltTrees.{path_total}
use Rattle.reg_index.proofs.SortedNames.{order-same}

abbrev Name : Type 0
Name = List ℕ

abbrev pub name_order : List ℕ → List ℕ → Ordering
name_order = slice_cmp nat_cmp

-- ---- names

no-less : Equal ≡ Less → ⊥
no-less e = cc

no-more : Greater ≡ Less → ⊥
no-more e = cc

pub name-itself : (x y : List ℕ) → x ≡ y → name_order x y ≡ Less → ⊥
name-itself x y e l = no-less (sym (tied_itself nat_list_cmp_total x) ∙ (ap (name_order x) e ∙ l))

pub name-back : (x y : List ℕ) → name_order x y ≡ Less → name_order y x ≡ Less → ⊥
name-back x y l m = no-more (ap ordering_reverse (sym m) ∙ (sym (nat_list_cmp_total.antisymm x y) ∙ l))

-- ---- paths

pub first-less : (o r : Ordering) → ordering_then o r ≡ Less → (o ≡ Less) ⊎ ((o ≡ Equal) × (r ≡ Less))
first-less Less r e = inl refl
first-less Equal r e = inr (refl, e)
first-less Greater r e = absurd (no-more e)

-- paths that begin alike are in the order of what is behind that
pub front-same : (f a b : Path) → path_cmp (f ++ a) (f ++ b) ≡ path_cmp a b
front-same [] a b = refl
front-same (n ∷ f) a b = rw (tied_itself nat_list_cmp_total n) (front-same f a b)

pub heads-less : (x y : List ℕ) (p q : Path) → path_cmp (x ∷ p) (y ∷ q) ≡ Less → (name_order x y ≡ Less) ⊎ ((x ≡ y) × (path_cmp p q ≡ Less))
heads-less x y p q e = elim (first-less (name_order x y) (path_cmp p q) e) [
  | inl l ↦ inl l
  | inr s ↦ inr (order-same x y s.0, s.1)
]

pub less-heads : (x y : List ℕ) (p q : Path) → name_order x y ≡ Less → path_cmp (x ∷ p) (y ∷ q) ≡ Less
less-heads x y p q e = ap (λ o. ordering_then o (path_cmp p q)) e

pub none-before : (p : Path) → path_cmp p [] ≡ Less → ⊥
none-before [] e = no-less e
none-before (x ∷ p) e = no-more e

-- what is between two paths that begin alike begins so too
pub between : (f a b q : Path) → path_cmp (f ++ a) q ≡ Less → path_cmp q (f ++ b) ≡ Less → (c : Path) × (q ≡ f ++ c) × (path_cmp a c ≡ Less) × (path_cmp c b ≡ Less)
between [] a b q l m = (q, refl, l, m)
between (n ∷ f) a b [] l m = absurd (none-before (n ∷ (f ++ a)) l)
between (n ∷ f) a b (y ∷ q) l m = elim (heads-less n y (f ++ a) q l) [
  | inl l ↦ elim (heads-less y n q (f ++ b) m) [
    | inl m ↦ absurd (name-back n y l m)
    | inr m ↦ absurd (name-itself n y (sym m.0) l)
  ]
  | inr l ↦ elim (heads-less y n q (f ++ b) m) [
    | inl m ↦ absurd (name-itself y n (sym l.0) m)
    | inr m ↦ (let r = between f a b q l.1 m.1 in (r.0, (λ i. sym l.0 i ∷ r.1 i), r.2, r.3))
  ]
]

-- ---- the paths right below one

all-at : {A : Type 0} (P : A → Type 0) (d : A) (xs : List A) (i : ℕ) → AllByRecursion P xs → i < length xs → P (get_or xs i d)
all-at P d [] i a l = absurd (omega (arith, l))
all-at P d (x ∷ xs) zero a l = a.0
all-at P d (x ∷ xs) (suc i) a l = all-at P d xs i a.1 (omega (arith, l))

sorted-at : (names : List Name) → IsStrictlySortedBy name_order names → (i j : ℕ) → i < j → j < length names → name_order (get_or names i []) (get_or names j []) ≡ Less
unfolding IsStrictlySortedBy
sorted-at [] s i j l m = absurd (omega (arith, m))
sorted-at (x ∷ xs) s i zero l m = absurd (omega (arith, l))
sorted-at (x ∷ xs) s zero (suc j) l m = all-at (λ y. name_order x y ≡ Less) [] xs j s.0 (omega (arith, m))
sorted-at (x ∷ xs) s (suc i) (suc j) l m = sorted-at xs s.1 i j (omega (arith, l)) (omega (arith, m))

pub any-at : {A : Type 0} (f : A → Bool) (d : A) (xs : List A) → list_any f xs ≡ true → (i : ℕ) × (i < length xs) × (f (get_or xs i d) ≡ true)
any-at f d [] e = absurd (false≢true e)
any-at f d (x ∷ xs) e = by (f x) refl e (any-at f d xs)
  where
    by : (b : Bool) → f x ≡ b → list_any f (x ∷ xs) ≡ true → (list_any f xs ≡ true → (i : ℕ) × (i < length xs) × (f (get_or xs i d) ≡ true)) →
        (i : ℕ) × (i < length (x ∷ xs)) × (f (get_or (x ∷ xs) i d) ≡ true)
    by true h e more = (0, omega arith, h)
    by false h e more = let r = more (sym (ap (λ b. b || list_any f xs) h) ∙ e) in let l = r.1 in (suc r.0, omega (arith, l), r.2)

pub last-same : (p : Path) (x y : List ℕ) → p ++ x ∷ [] ≡ p ++ y ∷ [] → x ≡ y
last-same p x y e = order-same x y (sym (path_cmp-below p x y) ∙ (sym (ap (path_cmp (below p x)) e) ∙ path-itself (below p x)))
  where
    path-itself : (q : Path) → path_cmp q q ≡ Equal
    path-itself q = tied_itself path_total q

module _ (t : Tree) (p : Path) where
  abbrev paths : List Path
  paths = children_of t p

  c : AreNamed p paths
  c = children-named t p

  many : length paths ≡ length c.names
  many = ap length c.are ∙ length-map c.names (below p)

  named : (i : ℕ) → i < length paths → get_or paths i [] ≡ p ++ get_or c.names i [] ∷ []
  named i l = ap (λ ps. get_or ps i []) c.are ∙ get_or-map (below p) c.names i [] [] (let n = many in omega (arith, l, n))

  name-at : (i : ℕ) (x : List ℕ) → i < length paths → get_or paths i [] ≡ p ++ x ∷ [] → get_or c.names i [] ≡ x
  name-at i x l e = last-same p (get_or c.names i []) x (sym (named i l) ∙ e)

  -- they are in the order of their last names
  pub child-order : (i j : ℕ) (x y : List ℕ) → i < j → j < length paths → get_or paths i [] ≡ p ++ x ∷ [] → get_or paths j [] ≡ p ++ y ∷ [] → name_order x y ≡ Less
  child-order i j x y l m e f =
      let n = many in
      (λ k. name_order (sym (name-at i x (omega (arith, l, m)) e) k) (sym (name-at j y m f) k))
      ∙ sorted-at c.names c.rising i j l (omega (arith, m, n))

  pub order-child : (i j : ℕ) (x y : List ℕ) → i < length paths → j < length paths → get_or paths i [] ≡ p ++ x ∷ [] → get_or paths j [] ≡ p ++ y ∷ [] → name_order x y ≡ Less → i < j
  order-child i j x y l m e f o = elim (cases_lt i j) [
    | inl k ↦ k
    | inr k ↦ elim (cases_lt j i) [
      | inl b ↦ absurd (name-back x y o (child-order j i y x b l f e))
      | inr b ↦ absurd (let same : i ≡ j = omega (arith, k, b) in name-itself x y (last-same p x y (sym e ∙ (ap (λ i. get_or paths i []) same ∙ f))) o)
    ]
  ]

  -- a key right below it is among them
  pub child-at : (y : List ℕ) → IsSome (get t (p ++ y ∷ [])) → (i : ℕ) × (i < length paths) × (get_or paths i [] ≡ p ++ y ∷ [])
  child-at y some =
      let q = below p y in
      let r = any-at (eq_by_cmp path_cmp q) [] paths (children-contain t p q ∙ (ap (λ b. b && contains_key t q) (is_child-below p y) ∙ some)) in
      (r.0, r.1, sym (path-is q _ r.2))

-- one that is among them is there
pub child-there : (t : Tree) (p : Path) (i : ℕ) → i < length (children_of t p) → (x : List ℕ) → get_or (children_of t p) i [] ≡ p ++ x ∷ [] → IsSome (get t (p ++ x ∷ []))
child-there t p i l x e =
    let q = below p x in
    let among = list_any_at (eq_by_cmp path_cmp q) (children_of t p) i [] l (ap (eq_by_cmp path_cmp q) e ∙ ap is_eq (tied_itself path_total q)) in
    (and_parts (is_child p q) (contains_key t q) (sym (children-contain t p q) ∙ among)).1
