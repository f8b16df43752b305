-- A tree from which keys below a path went one after another, each without subkeys, and what is left at the end.
use Rattle.std.proofs.Common.{◌≡◌, ◌≢◌, ◌⊎◌, inl, inr, ℕ, ◌<◌, ◌≤◌, Bool, true, false, cond, nat_lt, Option, Some}
use Rattle.std.proofs.Common.{None, IsSome, is_some, List, [], ◌∷◌, ◌++◌, length, refl, sym, ap, ◌∙◌, subst, arith, true≢false, length-append}
use Rattle.std.specs.Option.{option_map}
use Rattle.std.specs.FinMap.{get}
use Rattle.std.proofs.lemmas.Bool.{false≢true, ltb-true, ltb-false}
use Rattle.std.proofs.lemmas.List.{append-nil, append_assoc}
use Rattle.reg_heap.specs.Paths.{Path, Tree, Rec, children_of}
use Rattle.reg_heap.specs.Edits.{above, at_time, without_key, is_within, is_under}
use Rattle.reg_tree.specs.Internal.TreeDeletion.{bared}
use Rattle.reg_tree.proofs.DeleteKey.DeletedKeyPosition.{above-is}
use Rattle.reg_tree.proofs.PruneTree.ChildPlaces.{child-named}
use Rattle.reg_tree.proofs.PruneTree.PathOrder.{child-at, child-there}
use Rattle.reg_tree.proofs.PruneTree.PathsWithin.{within-is, under-parts, under-is}
use Rattle.reg_tree.proofs.PruneTree.TreesWithout.{without-above, without-other, without-there, without-stays, same-tree, wherever, kept_of, kept-others, kept-here, kept-under}

-- each key on the way to one is there
abbrev pub IsClosed : Tree → Type 0
IsClosed t = (p q : Path) → IsSome (get t (p ++ q)) → IsSome (get t p)

-- a key at a path with its time set, and it had subkeys; or the key as it was, with all its subkeys
abbrev pub IsTop : Tree → Tree → Path → ℕ → Type 0
IsTop old new p moment = ((get new p ≡ option_map (at_time moment) (get old p)) × ((x : List ℕ) × IsSome (get old (p ++ x ∷ [])))) ⊎
    ((get new p ≡ get old p) × ((x : List ℕ) → IsSome (get old (p ++ x ∷ [])) → IsSome (get new (p ++ x ∷ []))))

pub record Thins (old new : Tree) (p : Path) (moment : ℕ) : Type 0 where
  pub others : (q : Path) → is_within p q ≡ false → get new q ≡ get old q
  pub there : (q : Path) → IsSome (get new q) → IsSome (get old q)
  pub top : IsTop old new p moment

pub thins-none : (t : Tree) (p : Path) (moment : ℕ) → Thins t t p moment
thins-none t p moment = record { others = λ q w. refl; there = λ q some. some; top = inr (refl, λ x some. some) }

-- ---- one key less

twice : (moment : ℕ) (o : Option Rec) → option_map (at_time moment) (option_map (at_time moment) o) ≡ option_map (at_time moment) o
twice moment None = refl
twice moment (Some r) = refl

longer : (p q : Path) (x : List ℕ) (s : Path) → q ≡ p ++ x ∷ s → q ≢ p
longer p q x s e f = let l = ap length (sym f ∙ e) ∙ length-append p (x ∷ s) in omega (arith, l)

module _ (old t : Tree) (p : Path) (moment : ℕ) (thins : Thins old t p moment) (names : Path) (x : List ℕ) (some : IsSome (get t (p ++ (names ++ x ∷ [])))) where
  abbrev d : Path
  d = p ++ (names ++ x ∷ [])

  d-is : d ≡ (p ++ names) ++ x ∷ []
  d-is = sym (append_assoc p names (x ∷ []))

  above-d : above d ≡ p ++ names
  above-d = ap above d-is ∙ above-is (p ++ names) x

  pub above-other : above d ≢ d
  above-other e = longer (p ++ names) d x [] d-is (sym e ∙ above-d)

  d-within : (q : Path) → is_within p q ≡ false → q ≢ d
  d-within q w e = false≢true (sym w ∙ within-is p q (names ++ x ∷ []) e)

  above-within : (q : Path) → is_within p q ≡ false → q ≢ above d
  above-within q w e = false≢true (sym w ∙ within-is p q names (e ∙ above-d))

  thins-top : (ns : Path) → names ≡ ns → IsTop old (without_key t d moment) p moment
  thins-top [] e = elim thins.top [
    | inl late ↦ inl (timed ∙ (ap (option_map (at_time moment)) late.0 ∙ twice moment (get old p)), late.1)
    | inr early ↦ inl (timed ∙ ap (option_map (at_time moment)) early.0, (x, thins.there (p ++ x ∷ []) (subst (λ ns. IsSome (get t (p ++ (ns ++ x ∷ [])))) e some)))
  ]
    where
      p-is : above d ≡ p
      p-is = above-d ∙ (ap (λ ns. p ++ ns) e ∙ append-nil p)

      timed : get (without_key t d moment) p ≡ option_map (at_time moment) (get t p)
      timed =
          subst (λ q. get (without_key t d moment) q ≡ option_map (at_time moment) (get t q)) p-is (without-above t d moment above-other)
  thins-top (n ∷ ns) e = elim thins.top [
    | inl late ↦ inl (same ∙ late.0, late.1)
    | inr early ↦ inr (same ∙ early.0, λ y there. without-stays t d moment (p ++ y ∷ []) (not-child y) (early.1 y there))
  ]
    where
      not-p : p ≢ d
      not-p f = longer p d n (ns ++ x ∷ []) (ap (λ ns. p ++ (ns ++ x ∷ [])) e) (sym f)

      not-above : p ≢ above d
      not-above f = longer p (above d) n ns (above-d ∙ ap (λ ns. p ++ ns) e) (sym f)

      same : get (without_key t d moment) p ≡ get t p
      same = without-other t d moment p not-p not-above

      not-child : (y : List ℕ) → p ++ y ∷ [] ≢ d
      not-child y f =
          let l = ap length f in
          let a = length-append p (y ∷ []) in
          let b = ap length (ap (λ ns. p ++ (ns ++ x ∷ [])) e) in
          let c = length-append p ((n ∷ ns) ++ x ∷ []) in
          let g = length-append ns (x ∷ []) in
          omega (arith, l, a, b, c, g)

  pub thins-more : Thins old (without_key t d moment) p moment
  thins-more = record {
    others = λ q w. without-other t d moment q (d-within q w) (above-within q w) ∙ thins.others q w;
    there = λ q there. thins.there q (without-there t d moment q there);
    top = thins-top names refl;
  }

-- ---- a key without subkeys

no-child : (t : Tree) (p : Path) → children_of t p ≡ [] → (x : List ℕ) → IsSome (get t (p ++ x ∷ [])) → ⊥
no-child t p e x some = let c = child-at t p x some in let l = c.1 in let n = ap length e in omega (arith, l, n)

none-or-some : (o : Option Rec) → (IsSome o → ⊥) → o ≡ None
none-or-some None n = refl
none-or-some (Some r) n = absurd (n refl)

pub none-under : (t : Tree) → IsClosed t → (p : Path) → children_of t p ≡ [] → (q : Path) → is_under p q ≡ true → get t q ≡ None
none-under t closed p e q u =
    let parts = under-parts p q u in
    none-or-some (get t q) (λ some. no-child t p e parts.0
    (closed (p ++ parts.0 ∷ []) parts.1 (subst (λ q. IsSome (get t q)) (parts.2 ∙ sym (append_assoc p (parts.0 ∷ []) parts.1)) some)))

-- a key has no subkeys where none is below it
pub bare-of : (t : Tree) (p : Path) → ((q : Path) → is_under p q ≡ true → get t q ≡ None) → children_of t p ≡ []
bare-of t p none = by (children_of t p) refl
  where
    by : (paths : List Path) → children_of t p ≡ paths → paths ≡ []
    by [] e = refl
    by (q ∷ paths) e =
        let l : 0 < length (children_of t p) = (let n = ap length e in omega (arith, n)) in
        let c = child-named t p 0 l in
        absurd (true≢false (sym (child-there t p 0 l c.0 c.1) ∙ ap is_some (none (p ++ c.0 ∷ []) (under-is p (p ++ c.0 ∷ []) c.0 [] refl))))

pub children-none : (t : Tree) (p : Path) → nat_lt 0 (length (children_of t p)) ≡ false → children_of t p ≡ []
children-none t p e = by (children_of t p) (ltb-false _ _ e)
  where
    by : (paths : List Path) → length paths ≤ 0 → paths ≡ []
    by [] l = refl
    by (q ∷ paths) l = absurd (omega (arith, l))

-- ---- all that was below gone

module _ (old : Tree) (closed : IsClosed old) (p : Path) (moment : ℕ) where
  abbrev some : Bool
  some = nat_lt 0 (length (children_of old p))

  abbrev kept : Tree
  kept = kept_of old p (at_time moment)

  abbrev Bared : Bool → Tree
  Bared b = cond b kept old

  pub bared-others : (q : Path) → is_within p q ≡ false → get (bared old p moment) q ≡ get old q
  bared-others q w = by some
    where
      by : (b : Bool) → get (Bared b) q ≡ get old q
      by true = kept-others old p (at_time moment) q w
      by false = refl

  pub bared-under : (q : Path) → is_under p q ≡ true → get (bared old p moment) q ≡ None
  bared-under q u = by some refl
    where
      by : (b : Bool) → some ≡ b → get (Bared b) q ≡ None
      by true e = kept-under old p (at_time moment) q u
      by false e = none-under old closed p (children-none old p e) q u

  pub bared-here : get (bared old p moment) p ≡ cond some (option_map (at_time moment) (get old p)) (get old p)
  bared-here = by some
    where
      by : (b : Bool) → get (Bared b) p ≡ cond b (option_map (at_time moment) (get old p)) (get old p)
      by true = kept-here old p (at_time moment)
      by false = refl

  -- where nothing is left below, a thinned tree is that
  module _ (t : Tree) (thins : Thins old t p moment) (open_to : IsClosed t) (bare : children_of t p ≡ []) where
    top-here : (b : Bool) → some ≡ b → get t p ≡ cond b (option_map (at_time moment) (get old p)) (get old p)
    top-here true e = elim thins.top [
      | inl late ↦ late.0
      | inr early ↦ (let c = child-named old p 0 (ltb-true _ _ e) in
          absurd (no-child t p bare c.0 (early.1 c.0 (child-there old p 0 (ltb-true _ _ e) c.0 c.1))))
    ]
    top-here false e = elim thins.top [
      | inl late ↦ absurd (no-child old p (children-none old p e) late.1.0 late.1.1)
      | inr early ↦ early.0
    ]

    pub thinned-bare : t ≡ bared old p moment
    thinned-bare = same-tree t (bared old p moment) (wherever p (λ q. get t q ≡ get (bared old p moment) q)
        (λ q w. thins.others q w ∙ sym (bared-others q w)) (top-here some refl ∙ sym bared-here) (λ q u. none-under t open_to p bare q u ∙ sym (bared-under q u)))
