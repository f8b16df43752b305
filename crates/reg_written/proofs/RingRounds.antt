-- A ring read from one of its securities on, as a walk by their links goes.
use Rattle.std.proofs.Common.{◌≡◌, ◌≢◌, ◌⊎◌, inl, inr, ℕ, ◌+◌, ◌<◌, zero, suc, Bool, true, false, cond, List, [], ◌∷◌, ◌++◌, length, get_or, Some, refl, sym, ap, ◌∙◌, subst, arith, eqb}
use Rattle.std.specs.List.{AllByRecursion}
use Rattle.std.proofs.lemmas.Bool.{eqb-true, eq-eqb, ne_eqb, cases_eq}
use Rattle.std.proofs.lemmas.List.{append-nil}
use Rattle.std.proofs.lemmas.Option.{same_Some}
use Rattle.reg_heap.specs.Heaps.{Heap}
use Rattle.reg_heap.specs.Kinds.{times}
use Rattle.reg_arena.proofs.FreeList.ListMembers.{times-all}
use Rattle.reg_arena.proofs.FreeList.ThreadLinks.{times-append}
use Rattle.reg_shape.specs.Whole.{Leads, Circles, count_at, flink_at, blink_at, descriptor_at}
use Rattle.reg_shape.specs.Written.{Pairwise, IsWrittenSecurity}
use Rattle.reg_written.specs.SecurityRings.{IsRingOf}
use Rattle.reg_written.specs.Internal.RingWalks.{IsBetween, Goes, IsRound}

-- ---- members of lists

-- the first of a list stands in it
pub times-first : (x : ℕ) (xs : List ℕ) → 0 < times x (x ∷ xs)
times-first x xs = let e : eqb x x ≡ true = eq-eqb x x refl in rw e (omega arith)

-- a member is the first, or a member of what follows
pub member-by : (x : ℕ) (xs : List ℕ) (z : ℕ) → 0 < times z (x ∷ xs) → (x ≡ z) ⊎ (0 < times z xs)
member-by x xs z = by (eqb x z) refl
  where
    by : (b : Bool) → eqb x z ≡ b → 0 < cond b 1 0 + times z xs → (x ≡ z) ⊎ (0 < times z xs)
    by true e h = inl (eqb-true x z e)
    by false e h = inr (omega arith)

-- a list with one of its members picked out
record IsSplit (ring : List ℕ) (first : ℕ) : Type 0 where
  front : List ℕ
  back : List ℕ
  is : ring ≡ front ++ first ∷ back

split-by : (x : ℕ) (xs : List ℕ) (first : ℕ) → (0 < times first xs → IsSplit xs first) → (x ≡ first) ⊎ (0 < times first xs) → IsSplit (x ∷ xs) first
split-by x xs first more (inl e) = record { front = []; back = xs; is = ap (λ y. y ∷ xs) e }
split-by x xs first more (inr l) = let s = more l in record { front = x ∷ s.front; back = s.back; is = ap (λ ys. x ∷ ys) s.is }

-- each member can be picked out
split : (ring : List ℕ) (first : ℕ) → 0 < times first ring → IsSplit ring first
split [] first h = absurd (omega arith)
split (x ∷ xs) first h = split-by x xs first (λ l. split xs first l) (member-by x xs first h)

-- ---- the way along the links

module _ (h : Heap) where
  -- a way through a security is two ways
  leads-split : (x : ℕ) (a : List ℕ) (z : ℕ) (b : List ℕ) (e : ℕ) → Leads h x (a ++ z ∷ b) e → Leads h x a z × Leads h z b e
  leads-split x [] z b e l = l
  leads-split x (y ∷ a) z b e l = let t = leads-split y a z b e l.1 in ((l.0, t.0), t.1)

  -- two ways that meet in a security are one
  leads-join : (x : ℕ) (a : List ℕ) (z : ℕ) (b : List ℕ) (e : ℕ) → Leads h x a z → Leads h z b e → Leads h x (a ++ z ∷ b) e
  leads-join x [] z b e l m = (l, m)
  leads-join x (y ∷ a) z b e l m = (l.0, leads-join y a z b e l.1 m)

  -- a circle is one from each of its securities on
  circles-turned : (a : List ℕ) (z : ℕ) (b : List ℕ) → Circles h (a ++ z ∷ b) → Circles h (z ∷ (b ++ a))
  circles-turned [] z b c = subst (λ l. Leads h z l z) (sym (append-nil b)) c
  circles-turned (x ∷ a) z b c = let t = leads-split x a z b x c in leads-join z b x a z t.1 t.0

  -- what a walk along a way meets
  record IsGone (x : ℕ) (xs : List ℕ) (end : ℕ) : Type 0 where
    last : ℕ
    on : ℕ
    forward : flink_at h x ≡ Some on
    back : blink_at h end ≡ Some last
    goes : Goes h x on xs last end

  gone : (x : ℕ) (xs : List ℕ) (end : ℕ) → Leads h x xs end → IsGone x xs end
  gone x [] end l = record { last = x; on = end; forward = l.forward; back = l.back; goes = (refl, refl) }
  gone x (y ∷ ys) end l =
      let t = gone y ys end l.1 in
      record {
        last = t.last;
        on = y;
        forward = l.0.forward;
        back = t.back;
        goes = (t.on, refl, record { back = l.0.back; on = t.forward }, t.goes);
      }

  -- so does a walk round a circle
  goes-round : (first : ℕ) (rest : List ℕ) (last : ℕ) → Circles h (first ∷ rest) → blink_at h first ≡ Some last → Goes h last first (first ∷ rest) last first
  goes-round first rest last c e =
      let t = gone first rest first c in
      let same : t.last ≡ last = same_Some _ _ (sym t.back ∙ e) in
      (t.on, refl, record { back = e; on = t.forward }, subst (λ l. Goes h first t.on rest l first) same t.goes)

  -- what a walk meets is a way
  leads-gone : (x on : ℕ) (xs : List ℕ) (last end : ℕ) → Goes h x on xs last end → flink_at h x ≡ Some on → blink_at h end ≡ Some last → Leads h x xs end
  leads-gone x on [] last end g f b = record { forward = f ∙ ap Some g.1; back = b ∙ ap Some (sym g.0) }
  leads-gone x on (y ∷ ys) last end g f b =
      (record { forward = f ∙ ap Some g.1; back = g.2.back }, leads-gone y g.0 ys last end g.3 g.2.on b)

  -- a walk that comes back to the first, which names the last, went round a circle
  pub circles-gone : (first last : ℕ) (ring : List ℕ) → Goes h last first ring last first → blink_at h first ≡ Some last → Circles h ring
  circles-gone first last [] g e = tt
  circles-gone first last (x ∷ xs) g e =
      leads-gone x g.0 xs last x (subst (λ k. Goes h x g.0 xs last k) g.1 g.3) g.2.on (subst (λ k. blink_at h k ≡ Some last) g.1 e)

  -- one security more behind a walk
  pub goes-more : (before at : ℕ) (xs : List ℕ) (last next on : ℕ) → Goes h before at xs last next → IsBetween h next last on → Goes h before at (xs ++ next ∷ []) next on
  goes-more before at [] last next on g b = (on, g.1, subst (λ l. IsBetween h next l on) (sym g.0) b, (refl, refl))
  goes-more before at (x ∷ xs) last next on g b = (g.0, g.1, g.2, goes-more x g.0 xs last next on g.3 b)

-- ---- what is known of each security of a ring

module _ (heap : Heap) where
  -- no two have equal descriptors
  abbrev Apart : List ℕ → Type 0
  Apart xs = Pairwise (λ a b. descriptor_at heap a ≢ descriptor_at heap b) xs

  -- each stands once
  once-by : (x : ℕ) (xs : List ℕ) → AllByRecursion (λ y. descriptor_at heap x ≢ descriptor_at heap y) xs → (z : ℕ) → times z xs < 2 → (x ≡ z) ⊎ (x ≢ z) → times z (x ∷ xs) < 2
  once-by x xs a z l (inl e) =
      let none : times z xs ≡ 0 = no-more (times z xs) (λ k. times-all (λ y. descriptor_at heap x ≢ descriptor_at heap y) xs a z k (ap (descriptor_at heap) e)) in
      let s : eqb x z ≡ true = eq-eqb x z e in
      rw s (omega (arith, none))
    where
      no-more : (n : ℕ) → (0 < n → ⊥) → n ≡ 0
      no-more zero never = refl
      no-more (suc n) never = absurd (never (omega arith))
  once-by x xs a z l (inr p) = let s : eqb x z ≡ false = ne_eqb x z p in rw s (omega arith)

  once : (xs : List ℕ) → Apart xs → (z : ℕ) → times z xs < 2
  once [] p z = omega arith
  once (x ∷ xs) p z = once-by x xs p.0 z (once xs p.1 z) (cases_eq x z)

  -- two of them differ
  differ-by : (x : ℕ) (xs : List ℕ) → AllByRecursion (λ y. descriptor_at heap x ≢ descriptor_at heap y) xs → (one other : ℕ) → one ≢ other →
      (0 < times one xs → 0 < times other xs → descriptor_at heap one ≢ descriptor_at heap other) →
      (x ≡ one) ⊎ (0 < times one xs) → (x ≡ other) ⊎ (0 < times other xs) → descriptor_at heap one ≢ descriptor_at heap other
  differ-by x xs a one other p more (inl e) (inl f) = λ _. p (sym e ∙ f)
  differ-by x xs a one other p more (inl e) (inr l) =
      λ s. times-all (λ y. descriptor_at heap x ≢ descriptor_at heap y) xs a other l (ap (descriptor_at heap) e ∙ s)
  differ-by x xs a one other p more (inr k) (inl f) =
      λ s. times-all (λ y. descriptor_at heap x ≢ descriptor_at heap y) xs a one k (ap (descriptor_at heap) f ∙ sym s)
  differ-by x xs a one other p more (inr k) (inr l) = more k l

  differ : (xs : List ℕ) → Apart xs → (one other : ℕ) → 0 < times one xs → 0 < times other xs → one ≢ other → descriptor_at heap one ≢ descriptor_at heap other
  differ [] p one other k l n = absurd (omega arith)
  differ (x ∷ xs) p one other k l n =
      differ-by x xs p.0 one other n (λ k l. differ xs p.1 one other k l n) (member-by x xs one k) (member-by x xs other l)

-- ---- the ring

module _ (heap : Heap) (used : List ℕ) (first last : ℕ) (closes : blink_at heap first ≡ Some last) where
  round-split : (a b : List ℕ) → IsRingOf heap used (a ++ first ∷ b) → IsRound heap used first last (first ∷ (b ++ a))
  round-split a b r =
      let ring = a ++ first ∷ b in
      let same : (z : ℕ) → times z (first ∷ (b ++ a)) ≡ times z ring =
      λ z. (let t = times-append z (first ∷ b) a in let u = times-append z a (first ∷ b) in omega (arith, t, u)) in
      let there : (z : ℕ) → 0 < times z (first ∷ (b ++ a)) → 0 < times z ring = λ z k. subst (λ n. 0 < n) (same z) k in
      record {
        goes = goes-round heap first (b ++ a) last (circles-turned heap a first b r.closed.circles) closes;
        once = λ z. subst (λ n. n < 2) (sym (same z)) (once heap ring r.closed.apart z);
        members = λ z. (λ k. subst (λ n. 0 < n) (sym (same z)) ((r.members z).0 k), λ k. (r.members z).1 (there z k));
        counts = λ z k. times-all (λ o. count_at heap o ≡ Some (times o used)) ring r.counts z (there z k);
        written = λ z k. times-all (IsWrittenSecurity heap) ring r.closed.written z (there z k);
        apart = λ x y k l n. differ heap ring r.closed.apart x y (there x k) (there y l) n;
      }

  -- a ring of the securities that are used, read from one of them on
  pub round-of : (ring : List ℕ) → 0 < times first used → IsRingOf heap used ring → (whole : List ℕ) × IsRound heap used first last whole
  round-of ring k r =
      let s = split ring first ((r.members first).0 k) in
      (first ∷ (s.back ++ s.front), round-split s.front s.back (subst (IsRingOf heap used) s.is r))

  -- where there is none from the first of them on, there is none
  pub no-ring : 0 < times first used → ((whole : List ℕ) → IsRound heap used first last whole → ⊥) → (ring : List ℕ) → IsRingOf heap used ring → ⊥
  no-ring k never ring r = let t = round-of ring k r in never t.0 t.1

-- the first of those that are used is one of them
pub first-used : (used : List ℕ) → 0 < length used → 0 < times (get_or used 0 0) used
first-used [] l = absurd (omega arith)
first-used (x ∷ used) l = times-first x used
