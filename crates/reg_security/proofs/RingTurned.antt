-- A ring read from another of its securities on.
use Rattle.std.proofs.Common.{◌≡◌, ℕ, ◌+◌, ◌<◌, ◌≤◌, zero, suc, Bool, true, false, cond, ◌⊎◌, inl, inr, List, [], ◌∷◌, ◌++◌, refl, sym, ap, subst, arith, eqb}
use Rattle.std.specs.List.{AllByRecursion}
use Rattle.std.proofs.lemmas.Bool.{eqb-true, eq-eqb}
use Rattle.std.proofs.lemmas.List.{append-nil}
use Rattle.reg_heap.specs.Heaps.{Heap}
use Rattle.reg_heap.specs.Kinds.{times}
use Rattle.reg_arena.proofs.Contents.CellWrites.{all-append}
use Rattle.reg_arena.proofs.FreeList.ListMembers.{times-all}
use Rattle.reg_shape.specs.Written.{Pairwise, IsWrittenSecurity}
use Rattle.reg_shape.specs.Whole.{IsRing, Leads, Circles, descriptor_at}

-- ---- members of lists

-- the first of a list stands in it
pub times-first : (x : ℕ) (xs : List ℕ) → 0 < times x (x ∷ xs)
times-first x xs = let e : eqb x x ≡ true = eq-eqb x x refl in rw e (omega arith)

-- a member is the first, or a member of what follows
pub member-by : (x : ℕ) (xs : List ℕ) (z : ℕ) → 0 < times z (x ∷ xs) → (x ≡ z) ⊎ (0 < times z xs)
member-by x xs z = by (eqb x z) refl
  where
    by : (b : Bool) → eqb x z ≡ b → 0 < cond b 1 0 + times z xs → (x ≡ z) ⊎ (0 < times z xs)
    by true e h = inl (eqb-true x z e)
    by false e h = inr (omega arith)

-- a number stands in two lists together as often as in each
pub times-append : (z : ℕ) (a b : List ℕ) → times z (a ++ b) ≡ times z a + times z b
times-append z [] b = omega arith
times-append z (x ∷ a) b = let t = times-append z a b in omega (arith, t)

-- what holds of all of two lists holds of each
pub all-split : (P : ℕ → Type 0) (a b : List ℕ) → AllByRecursion P (a ++ b) → AllByRecursion P a × AllByRecursion P b
all-split P [] b h = (tt, h)
all-split P (x ∷ a) b h = let t = all-split P a b h.1 in ((h.0, t.0), t.1)

-- ---- each before all that follow it

module _ (R : ℕ → ℕ → Type 0) where
  -- each of the first list before all of the second
  abbrev Across : List ℕ → List ℕ → Type 0
  Across a b = AllByRecursion (λ x. AllByRecursion (R x) b) a

  -- what two lists together say of each
  record ArePairs (a b : List ℕ) : Type 0 where
    front : Pairwise R a
    back : Pairwise R b
    across : Across a b

  -- two lists in order are each in order, and the first before the second
  pairs-split : (a b : List ℕ) → Pairwise R (a ++ b) → ArePairs a b
  pairs-split [] b p = record { front = tt; back = p; across = tt }
  pairs-split (x ∷ a) b p =
      let t = pairs-split a b p.1 in
      let h = all-split (R x) a b p.0 in
      record { front = (h.0, t.front); back = t.back; across = (h.1, t.across) }

  -- two lists in order, the first before the second, are in order together
  pairs-join : (a b : List ℕ) → Pairwise R a → Pairwise R b → Across a b → Pairwise R (a ++ b)
  pairs-join [] b p q h = q
  pairs-join (x ∷ a) b p q h = (all-append (R x) a b p.0 h.0, pairs-join a b p.1 q h.1)

  module _ (flip : (x y : ℕ) → R x y → R y x) where
    -- each of a list stands before none
    across-nil : (b : List ℕ) → Across b []
    across-nil [] = tt
    across-nil (y ∷ b) = (tt, across-nil b)

    -- one more stands behind each of a list
    across-more : (x : ℕ) (a b : List ℕ) → AllByRecursion (R x) b → Across b a → Across b (x ∷ a)
    across-more x a [] h t = tt
    across-more x a (y ∷ b) h t = ((flip x y h.0, t.0), across-more x a b h.1 t.1)

    -- the second list stands before the first, where the relation goes both ways
    across-flip : (a b : List ℕ) → Across a b → Across b a
    across-flip [] b h = across-nil b
    across-flip (x ∷ a) b h = across-more x a b h.0 (across-flip a b h.1)

    -- the back first, where the relation goes both ways
    pairs-turned : (a b : List ℕ) → Pairwise R (a ++ b) → Pairwise R (b ++ a)
    pairs-turned a b p = let t = pairs-split a b p in pairs-join b a t.back t.front (across-flip a b t.across)

-- ---- the circle

module _ (h : Heap) where
  -- a way through a security is two ways
  pub leads-split : (x : ℕ) (a : List ℕ) (z : ℕ) (b : List ℕ) (e : ℕ) → Leads h x (a ++ z ∷ b) e → Leads h x a z × Leads h z b e
  leads-split x [] z b e l = l
  leads-split x (y ∷ a) z b e l = let t = leads-split y a z b e l.1 in ((l.0, t.0), t.1)

  -- two ways that meet in a security are one
  pub leads-join : (x : ℕ) (a : List ℕ) (z : ℕ) (b : List ℕ) (e : ℕ) → Leads h x a z → Leads h z b e → Leads h x (a ++ z ∷ b) e
  leads-join x [] z b e l m = (l, m)
  leads-join x (y ∷ a) z b e l m = (l.0, leads-join y a z b e l.1 m)

  -- a circle is one from each of its securities on
  circles-turned : (a : List ℕ) (z : ℕ) (b : List ℕ) → Circles h (a ++ z ∷ b) → Circles h (z ∷ (b ++ a))
  circles-turned [] z b c = subst (λ l. Leads h z l z) (sym (append-nil b)) c
  circles-turned (x ∷ a) z b c = let t = leads-split x a z b x c in leads-join z b x a z t.1 t.0

-- ---- the ring

-- a list with one of its members picked out
record IsSplit (ring : List ℕ) (first : ℕ) : Type 0 where
  front : List ℕ
  back : List ℕ
  is : ring ≡ front ++ first ∷ back

-- a member is the first, or picked out of what follows
split-by : (x : ℕ) (xs : List ℕ) (first : ℕ) → (0 < times first xs → IsSplit xs first) → (x ≡ first) ⊎ (0 < times first xs) → IsSplit (x ∷ xs) first
split-by x xs first more (inl e) = record { front = []; back = xs; is = ap (λ y. y ∷ xs) e }
split-by x xs first more (inr l) = let s = more l in record { front = x ∷ s.front; back = s.back; is = ap (λ ys. x ∷ ys) s.is }

-- each member can be picked out
split : (ring : List ℕ) (first : ℕ) → 0 < times first ring → IsSplit ring first
split [] first h = absurd (omega arith)
split (x ∷ xs) first h = split-by x xs first (λ l. split xs first l) (member-by x xs first h)

-- a ring read from one of its securities on
pub record IsTurned (heap : Heap) (ring : List ℕ) (first : ℕ) : Type 0 where
  pub rest : List ℕ
  pub closed : IsRing heap (first ∷ rest)
  pub members : (offset : ℕ) → times offset (first ∷ rest) ≡ times offset ring

-- a ring in which a security is picked out, read from it on
turned-split : (heap : Heap) (a : List ℕ) (first : ℕ) (b : List ℕ) → IsRing heap (a ++ first ∷ b) → IsTurned heap (a ++ first ∷ b) first
turned-split heap a first b r = record {
  rest = b ++ a;
  closed = record {
    circles = circles-turned heap a first b r.circles;
    apart = pairs-turned (λ x y. descriptor_at heap x ≡ descriptor_at heap y → ⊥) (λ x y n e. n (sym e)) a (first ∷ b) r.apart;
    written = let w = all-split (IsWrittenSecurity heap) a (first ∷ b) r.written in all-append (IsWrittenSecurity heap) (first ∷ b) a w.1 w.0;
  };
  members = λ offset. (let t = times-append offset (first ∷ b) a in let u = times-append offset a (first ∷ b) in omega (arith, t, u));
}

-- a ring can be read from any of its securities on
pub turned : (heap : Heap) (ring : List ℕ) (first : ℕ) → IsRing heap ring → 0 < times first ring → IsTurned heap ring first
turned heap ring first r h =
    let s = split ring first h in
    subst (λ l. IsTurned heap l first) (sym s.is) (turned-split heap s.front first s.back (subst (IsRing heap) s.is r))

-- ---- what is known of each security of a ring

-- the first stands once, since none that follows has its descriptor
once-by : (heap : Heap) (x : ℕ) (xs : List ℕ) (z : ℕ) → AllByRecursion (λ y. descriptor_at heap x ≡ descriptor_at heap y → ⊥) xs → times z xs ≤ 1 →
    (b : Bool) → eqb x z ≡ b → cond b 1 0 + times z xs ≤ 1
once-by heap x xs z apart rest true e =
    let none : times z xs ≡ 0 = no-more (times z xs) (λ l. times-all (λ y. descriptor_at heap x ≡ descriptor_at heap y → ⊥) xs apart z l (ap (descriptor_at heap) (eqb-true x z e))) in
    omega (arith, none)
  where
    no-more : (n : ℕ) → (0 < n → ⊥) → n ≡ 0
    no-more zero never = refl
    no-more (suc n) never = absurd (never (omega arith))
once-by heap x xs z apart rest false e = omega arith

-- a security stands once in its ring
pub once : (heap : Heap) (ring : List ℕ) → IsRing heap ring → (z : ℕ) → times z ring ≤ 1
once heap ring r = by ring r.apart
  where
    by : (ring : List ℕ) → Pairwise (λ x y. descriptor_at heap x ≡ descriptor_at heap y → ⊥) ring → (z : ℕ) → times z ring ≤ 1
    by [] p z = omega arith
    by (x ∷ xs) p z = once-by heap x xs z p.0 (by xs p.1 z) (eqb x z) refl

-- each security of a ring is as it is written
pub written-at : (heap : Heap) (ring : List ℕ) → IsRing heap ring → (z : ℕ) → 0 < times z ring → IsWrittenSecurity heap z
written-at heap ring r z h = times-all (IsWrittenSecurity heap) ring r.written z h
