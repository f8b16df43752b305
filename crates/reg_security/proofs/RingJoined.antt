-- A key security comes into a ring behind one of it.
use Rattle.std.proofs.Common.{◌≡◌, ◌≢◌, ℕ, ◌+◌, ◌<◌, ◌≤◌, Bool, true, false, cond, ◌⊎◌, inl, inr, Option, Some, IsSome, List, [], ◌∷◌, length, refl, sym, ap, ◌∙◌, subst, arith, eqb}
use Rattle.std.specs.Prelude.{unwrap_or}
use Rattle.std.specs.Option.{option_map}
use Rattle.std.proofs.lemmas.Bool.{cases_eq, eq-eqb, eqb-true}
use Rattle.std.proofs.lemmas.Option.{same_Some}
use Rattle.reg_heap.specs.declared.limits.TheConstants.{DESCRIPTOR_LIMIT}
use Rattle.reg_heap.specs.Heaps.{Heap, Writes}
use Rattle.reg_heap.specs.Kinds.{times}
use Rattle.reg_records.specs.RecordCells.{held}
use Rattle.reg_records.specs.KeySecurities.{KeySecurityRecord, security_at, IsPlainSecurity}
use Rattle.reg_records.proofs.KeySecurityCodec.{security_at-same}
use Rattle.reg_arena.proofs.FreeList.ListMembers.{times-all, all_from_times}
use Rattle.reg_shape.specs.Written.{Pairwise, IsWrittenSecurity}
use Rattle.reg_shape.specs.Whole.{IsRing, Leads, flink_at, blink_at, count_at, descriptor_at}
use Rattle.reg_security.specs.Rings.{IsAdded}
use Rattle.reg_security.proofs.RingTurned.{times-first, IsTurned, turned, once, written-at}

-- ---- one security changes

module _ (h k : Heap) (at : ℕ) (others : (z : ℕ) → z ≢ at → k z ≡ h z) where
  -- a part of each other security stays
  pub part-beside : {X : Type 0} (f : KeySecurityRecord → X) (z : ℕ) → z ≢ at → option_map f (security_at k z) ≡ option_map f (security_at h z)
  part-beside f z n = ap (option_map f) (security_at-same h k z (others z n))

  -- each other security is as it is written
  pub written-beside : (z : ℕ) → z ≢ at → IsWrittenSecurity h z → IsWrittenSecurity k z
  written-beside z n w = record {
    security = w.security;
    reads = security_at-same h k z (others z n) ∙ w.reads;
    plain = subst (λ (c : Option (List ℕ)). IsPlainSecurity (unwrap_or c [])) (sym (others z n)) w.plain;
    some = w.some;
    short = w.short;
  }

  module _ (change : KeySecurityRecord → KeySecurityRecord) (reads : (r : KeySecurityRecord) → security_at h at ≡ Some r → security_at k at ≡ Some (change r))
      (was : KeySecurityRecord) (is : security_at h at ≡ Some was) where
    -- a part that the change leaves stays in each security
    pub part-kept : {X : Type 0} (f : KeySecurityRecord → X) → f (change was) ≡ f was → (z : ℕ) → option_map f (security_at k z) ≡ option_map f (security_at h z)
    part-kept f same z = by (cases_eq z at)
      where
        by : (z ≡ at) ⊎ (z ≡ at → ⊥) → option_map f (security_at k z) ≡ option_map f (security_at h z)
        by (inl e) =
            subst (λ y. option_map f (security_at k y) ≡ option_map f (security_at h y)) (sym e)
            (ap (option_map f) (reads was is) ∙ (ap Some same ∙ sym (ap (option_map f) is)))
        by (inr n) = part-beside f z n

    -- each security is as it is written, where the change leaves the descriptor
    pub written-kept : ((r : KeySecurityRecord) → (change r).descriptor ≡ r.descriptor) → (IsPlainSecurity (held h at) → IsPlainSecurity (held k at)) →
        (z : ℕ) → IsWrittenSecurity h z → IsWrittenSecurity k z
    written-kept same plain z = by (cases_eq z at)
      where
        here : IsWrittenSecurity h at → IsWrittenSecurity k at
        here w = record {
          security = change w.security;
          reads = reads w.security w.reads;
          plain = plain w.plain;
          some = subst (λ (l : List ℕ). 1 ≤ length l) (sym (same w.security)) w.some;
          short = subst (λ (l : List ℕ). length l ≤ DESCRIPTOR_LIMIT) (sym (same w.security)) w.short;
        }

        by : (z ≡ at) ⊎ (z ≡ at → ⊥) → IsWrittenSecurity h z → IsWrittenSecurity k z
        by (inl e) = subst (λ y. IsWrittenSecurity h y → IsWrittenSecurity k y) (sym e) here
        by (inr n) = written-beside z n

-- ---- numbers that differ

-- the first of a list isn't a number that doesn't stand in it
not-first : (z x : ℕ) (xs : List ℕ) → times z (x ∷ xs) ≡ 0 → x ≢ z
not-first z x xs none e =
    let l : 0 < times z (x ∷ xs) = subst (λ y. 0 < times y (x ∷ xs)) e (times-first x xs) in
    omega (arith, l, none)

-- a member isn't a number that doesn't stand in the list
pub not-member : (z y : ℕ) (xs : List ℕ) → 0 < times z xs → times y xs ≡ 0 → z ≢ y
not-member z y xs l none e =
    let m : 0 < times y xs = subst (λ x. 0 < times x xs) e l in
    omega (arith, m, none)

-- a list's first stands in it once more than in what follows
first-more : (x : ℕ) (xs : List ℕ) → times x (x ∷ xs) ≡ 1 + times x xs
first-more x xs = let e : eqb x x ≡ true = eq-eqb x x refl in rw e refl

-- what stands in one member alone stands in the list
one-within : (x : ℕ) (xs : List ℕ) → 0 < times x xs → (z : ℕ) → times z (x ∷ []) ≤ times z xs
one-within x xs l z = by (eqb x z) refl
  where
    by : (b : Bool) → eqb x z ≡ b → cond b 1 0 + 0 ≤ times z xs
    by true e = let m : 0 < times z xs = subst (λ y. 0 < times y xs) (eqb-true x z e) l in omega (arith, m)
    by false e = omega arith

-- ---- the ring with one more

-- the next one is of the ring
next-member : (h : Heap) (before next : ℕ) (rest : List ℕ) → Leads h before rest before → flink_at h before ≡ Some next → 0 < times next (before ∷ rest)
next-member h before next [] l e =
    let same : before ≡ next = same_Some _ _ (sym l.forward ∙ e) in
    subst (λ z. 0 < times z (before ∷ [])) same (times-first before [])
next-member h before next (n ∷ rest) l e =
    let same : n ≡ next = same_Some _ _ (sym l.0.forward ∙ e) in
    let m : 0 < times next (n ∷ rest) = subst (λ z. 0 < times z (n ∷ rest)) same (times-first n rest) in
    omega (arith, m)

module _ (h k : Heap) (before cell next : ℕ) (leads : flink_at h before ≡ Some next) (flink : (z : ℕ) → z ≢ before → z ≢ cell → flink_at k z ≡ flink_at h z)
    (blink : (z : ℕ) → z ≢ next → z ≢ cell → blink_at k z ≡ blink_at h z) (before_to : flink_at k before ≡ Some cell) (cell_back : blink_at k cell ≡ Some before)
    (cell_to : flink_at k cell ≡ Some next) (next_back : blink_at k next ≡ Some cell) where
  -- a way beside the place where one came in stays
  leads-beside : (x : ℕ) (rest : List ℕ) (end : ℕ) → times before (x ∷ rest) ≡ 0 → times cell (x ∷ rest) ≡ 0 → times next rest ≡ 0 → end ≢ next → end ≢ cell →
      Leads h x rest end → Leads k x rest end
  leads-beside x [] end a b c d e l = record { forward = flink x (not-first before x [] a) (not-first cell x [] b) ∙ l.forward; back = blink end d e ∙ l.back }
  leads-beside x (y ∷ rest) end a b c d e l = (
    record {
      forward = flink x (not-first before x (y ∷ rest) a) (not-first cell x (y ∷ rest) b) ∙ l.0.forward;
      back = blink y (not-first next y rest c) (not-first cell y rest (omega (arith, b))) ∙ l.0.back;
    },
    leads-beside y rest end (omega (arith, a)) (omega (arith, b)) (omega (arith, c)) d e l.1,
  )

  -- the circle with one more
  circle-joined : (rest : List ℕ) → ((z : ℕ) → times z (before ∷ rest) ≤ 1) → times cell (before ∷ rest) ≡ 0 → Leads h before rest before → Leads k before (cell ∷ rest) before
  circle-joined [] one fresh l =
      let same : before ≡ next = same_Some _ _ (sym l.forward ∙ leads) in (
        record { forward = before_to; back = cell_back },
        record { forward = cell_to ∙ ap Some (sym same); back = subst (λ z. blink_at k z ≡ Some cell) (sym same) next_back },
      )
  circle-joined (n ∷ rest) one fresh l =
      let same : n ≡ next = same_Some _ _ (sym l.0.forward ∙ leads) in
      let behind : times before (n ∷ rest) ≡ 0 = let o = one before in let f = first-more before (n ∷ rest) in omega (arith, o, f) in
      let last : times next rest ≡ 0 = subst (λ z. times z rest ≡ 0) same (let o = one n in let f = first-more n rest in omega (arith, o, f)) in (
        record { forward = before_to; back = cell_back },
        (
          record { forward = cell_to ∙ ap Some (sym same); back = subst (λ z. blink_at k z ≡ Some cell) (sym same) next_back },
          leads-beside n rest before behind (omega (arith, fresh)) last (λ e. not-first before n rest behind (same ∙ sym e)) (not-first cell before (n ∷ rest) fresh) l.1,
        ),
      )

module _ (h k : Heap) (cell : ℕ) (descriptor : (z : ℕ) → z ≢ cell → descriptor_at k z ≡ descriptor_at h z) where
  -- two securities have other descriptors
  abbrev Differ : Heap → ℕ → ℕ → Type 0
  Differ heap a b = descriptor_at heap a ≡ descriptor_at heap b → ⊥

  -- securities that differ still do
  apart-kept : (ring : List ℕ) → times cell ring ≡ 0 → Pairwise (Differ h) ring → Pairwise (Differ k) ring
  apart-kept [] fresh p = tt
  apart-kept (x ∷ xs) fresh p = (
    all_from_times (Differ k x) xs
        (λ z l same. times-all (Differ h x) xs p.0 z l (sym (descriptor x (not-first cell x xs fresh)) ∙ (same ∙ descriptor z (not-member z cell xs l (omega (arith, fresh)))))),
    apart-kept xs (omega (arith, fresh)) p.1,
  )

  -- with one more, whose descriptor none has
  apart-joined : (text : List ℕ) (before : ℕ) (rest : List ℕ) → times cell (before ∷ rest) ≡ 0 → Pairwise (Differ h) (before ∷ rest) → descriptor_at k cell ≡ Some text →
      ((z : ℕ) → 0 < times z (before ∷ rest) → descriptor_at h z ≢ Some text) → Pairwise (Differ k) (before ∷ cell ∷ rest)
  apart-joined text before rest fresh p is free =
      let q = apart-kept (before ∷ rest) fresh p in
      let other : (z : ℕ) → 0 < times z (before ∷ rest) → descriptor_at k z ≢ Some text = λ z l e. free z l (sym (descriptor z (not-member z cell (before ∷ rest) l fresh)) ∙ e) in (
        ((λ same. other before (times-first before rest) (same ∙ is)), q.0),
        (all_from_times (Differ k cell) rest (λ z l same. other z (omega (arith, l)) (sym same ∙ is)), q.1),
      )

-- ---- the steps

-- a security that is as it is written is there
pub there : (heap : Heap) (z : ℕ) → IsWrittenSecurity heap z → IsSome (security_at heap z)
there heap z w = subst IsSome (sym w.reads) refl

-- a security of a ring is there
pub member-there : (heap : Heap) (ring : List ℕ) → IsRing heap ring → (z : ℕ) → 0 < times z ring → IsSome (security_at heap z)
member-there heap ring r z l = there heap z (written-at heap ring r z l)

-- a ring before, and one of its securities with the next one
module _ (h0 : Heap) (ring : List ℕ) (r : IsRing h0 ring) (before : ℕ) (here : 0 < times before ring) (next : ℕ) (leads : flink_at h0 before ≡ Some next) where
  -- the ring, read from the one before on
  turn : IsTurned h0 ring before
  turn = turned h0 ring before r here

  -- the next one is of the ring
  pub next-here : 0 < times next ring
  next-here = let l = next-member h0 before next turn.rest turn.closed.circles leads in let m = turn.members next in omega (arith, l, m)

  -- a cell that is none of the ring was written
  module _ (cell : ℕ) (fresh : times cell ring ≡ 0) (h1 : Heap) (others1 : (z : ℕ) → z ≢ cell → h1 z ≡ h0 z) where
    -- each of the ring is still as it is written
    written1 : (z : ℕ) → 0 < times z ring → IsWrittenSecurity h1 z
    written1 z l = written-beside h0 h1 cell others1 z (not-member z cell ring l fresh) (written-at h0 ring r z l)

    -- the next one is still there
    pub next-there : IsSome (security_at h1 next)
    next-there = there h1 next (written1 next next-here)

    -- the next one leads back to the cell now
    module _ (h2 : Heap) (others2 : (z : ℕ) → z ≢ next → h2 z ≡ h1 z)
        (reads2 : (s : KeySecurityRecord) → security_at h1 next ≡ Some s → security_at h2 next ≡ Some (record s { fields = record s.fields { blink = cell } }))
        (plain2 : IsPlainSecurity (held h1 next) → IsPlainSecurity (held h2 next)) where
      -- the next one, as it is written
      at_next : IsWrittenSecurity h1 next
      at_next = written1 next next-here

      -- what the first step does to the next one
      abbrev led_back : KeySecurityRecord → KeySecurityRecord
      led_back s = record s { fields = record s.fields { blink = cell } }

      -- each security is still as it is written after the first step
      written2 : (z : ℕ) → IsWrittenSecurity h1 z → IsWrittenSecurity h2 z
      written2 = written-kept h1 h2 next others2 led_back reads2 at_next.security at_next.reads (λ s. refl) plain2

      -- the one before, as it is written
      at_before : IsWrittenSecurity h2 before
      at_before = written2 before (written1 before here)

      -- the one before is still there
      pub before-there : IsSome (security_at h2 before)
      before-there = there h2 before at_before

      -- the one before leads to the cell now
      module _ (h3 : Heap) (others3 : (z : ℕ) → z ≢ before → h3 z ≡ h2 z)
          (reads3 : (s : KeySecurityRecord) → security_at h2 before ≡ Some s → security_at h3 before ≡ Some (record s { fields = record s.fields { flink = cell } }))
          (plain3 : IsPlainSecurity (held h2 before) → IsPlainSecurity (held h3 before)) where
        -- what the second step does to the one before
        abbrev led_on : KeySecurityRecord → KeySecurityRecord
        led_on s = record s { fields = record s.fields { flink = cell } }

        -- what both steps leave stays
        both-kept : {X : Type 0} (f : KeySecurityRecord → X) → f (led_back at_next.security) ≡ f at_next.security → f (led_on at_before.security) ≡ f at_before.security →
            (z : ℕ) → option_map f (security_at h3 z) ≡ option_map f (security_at h1 z)
        both-kept f a b z =
            part-kept h2 h3 before others3 led_on reads3 at_before.security at_before.reads f b z ∙ part-kept h1 h2 next others2 led_back reads2 at_next.security at_next.reads f a z

        -- each descriptor stays
        descriptor-kept : (z : ℕ) → descriptor_at h3 z ≡ descriptor_at h1 z
        descriptor-kept = both-kept (λ (s : KeySecurityRecord). s.descriptor) refl refl

        -- each count stays
        count-kept : (z : ℕ) → count_at h3 z ≡ count_at h1 z
        count-kept = both-kept (λ (s : KeySecurityRecord). s.fields.count) refl refl

        -- each but the one before leads on as it did
        flink-kept : (z : ℕ) → z ≢ before → flink_at h3 z ≡ flink_at h1 z
        flink-kept z n =
            part-beside h2 h3 before others3 (λ (s : KeySecurityRecord). s.fields.flink) z n
            ∙ part-kept h1 h2 next others2 led_back reads2 at_next.security at_next.reads (λ (s : KeySecurityRecord). s.fields.flink) refl z

        -- each but the next one leads back as it did
        blink-kept : (z : ℕ) → z ≢ next → blink_at h3 z ≡ blink_at h1 z
        blink-kept z n =
            part-kept h2 h3 before others3 led_on reads3 at_before.security at_before.reads (λ (s : KeySecurityRecord). s.fields.blink) refl z
            ∙ part-beside h1 h2 next others2 (λ (s : KeySecurityRecord). s.fields.blink) z n

        -- the one before leads on to the cell
        before_to : flink_at h3 before ≡ Some cell
        before_to = ap (option_map (λ (s : KeySecurityRecord). s.fields.flink)) (reads3 at_before.security at_before.reads)

        -- the next one leads back to the cell
        next_back : blink_at h3 next ≡ Some cell
        next_back =
            part-kept h2 h3 before others3 led_on reads3 at_before.security at_before.reads (λ (s : KeySecurityRecord). s.fields.blink) refl next
            ∙ ap (option_map (λ (s : KeySecurityRecord). s.fields.blink)) (reads2 at_next.security at_next.reads)

        -- each security is still as it is written after both steps
        written3 : (z : ℕ) → IsWrittenSecurity h1 z → IsWrittenSecurity h3 z
        written3 z w = written-kept h2 h3 before others3 led_on reads3 at_before.security at_before.reads (λ s. refl) plain3 z (written2 z w)

        -- the security that came is in its ring
        module _ (text : List ℕ)
            (reads1 : security_at h1 cell ≡ Some (record { fields = record { flink = next; blink = before; count = 1 }; descriptor = text }))
            (plain1 : IsPlainSecurity (held h1 cell)) (some : 1 ≤ length text) (short : length text ≤ DESCRIPTOR_LIMIT)
            (free : (z : ℕ) → 0 < times z ring → descriptor_at h0 z ≢ Some text)
            (writes1 : Writes h0 h1 (cell ∷ [])) (writes2 : Writes h1 h2 (next ∷ [])) (writes3 : Writes h2 h3 (before ∷ [])) where
          -- the one that came is as it is written
          came : IsWrittenSecurity h3 cell
          came = written3 cell (record {
            security = record { fields = record { flink = next; blink = before; count = 1 }; descriptor = text };
            reads = reads1;
            plain = plain1;
            some = some;
            short = short;
          })

          -- each of the ring is still as it is written after all
          still-written : (z : ℕ) → 0 < times z ring → IsWrittenSecurity h3 z
          still-written z l = written3 z (written1 z l)

          -- the one that came has its descriptor
          is-described : descriptor_at h3 cell ≡ Some text
          is-described = descriptor-kept cell ∙ ap (option_map (λ (s : KeySecurityRecord). s.descriptor)) reads1

          -- the cell is none of the ring as it is turned
          fresh-turned : times cell (before ∷ turn.rest) ≡ 0
          fresh-turned = turn.members cell ∙ fresh

          -- a part that both steps leave is as it was before all, but in the cell
          same-part : {X : Type 0} (f : KeySecurityRecord → X) → ((z : ℕ) → option_map f (security_at h3 z) ≡ option_map f (security_at h1 z)) →
              (z : ℕ) → z ≢ cell → option_map f (security_at h3 z) ≡ option_map f (security_at h0 z)
          same-part f kept z n = kept z ∙ part-beside h0 h1 cell others1 f z n

          -- a security of the ring as it is turned is one of the ring
          of-ring : (z : ℕ) → 0 < times z (before ∷ turn.rest) → 0 < times z ring
          of-ring z l = let m = turn.members z in omega (arith, m, l)

          -- the ring, with the cell behind the one before
          ring-joined : IsRing h3 (before ∷ cell ∷ turn.rest)
          ring-joined = record {
            circles =
                circle-joined h0 h3 before cell next leads
                (λ z n m. flink-kept z n ∙ part-beside h0 h1 cell others1 (λ (s : KeySecurityRecord). s.fields.flink) z m)
                (λ z n m. blink-kept z n ∙ part-beside h0 h1 cell others1 (λ (s : KeySecurityRecord). s.fields.blink) z m)
                before_to
                (blink-kept cell (λ e. not-member next cell ring next-here fresh (sym e)) ∙ ap (option_map (λ (s : KeySecurityRecord). s.fields.blink)) reads1)
                (flink-kept cell (λ e. not-member before cell ring here fresh (sym e)) ∙ ap (option_map (λ (s : KeySecurityRecord). s.fields.flink)) reads1)
                next_back turn.rest (once h0 (before ∷ turn.rest) turn.closed) fresh-turned turn.closed.circles;
            apart =
                apart-joined h0 h3 cell (λ z n. same-part (λ (s : KeySecurityRecord). s.descriptor) descriptor-kept z n) text before turn.rest fresh-turned turn.closed.apart is-described
                (λ z l. free z (of-ring z l));
            written = (
              still-written before here,
              (came, all_from_times (IsWrittenSecurity h3) turn.rest (λ z l. still-written z (of-ring z (omega (arith, l))))),
            );
          }

          -- what came of the three steps
          pub joined : IsAdded h0 h3 ring cell text
          joined = record {
            after = before ∷ cell ∷ turn.rest;
            closed = ring-joined;
            members = λ z. (let m = turn.members z in omega (arith, m));
            describes = is-described;
            count = count-kept cell ∙ ap (option_map (λ (s : KeySecurityRecord). s.fields.count)) reads1;
            same = λ z l. record {
              descriptor = same-part (λ (s : KeySecurityRecord). s.descriptor) descriptor-kept z (not-member z cell ring l fresh);
              count = same-part (λ (s : KeySecurityRecord). s.fields.count) count-kept z (not-member z cell ring l fresh);
            };
            frame = record {
              count = λ z. (let a = writes1.count z in let b = writes2.count z in let c = writes3.count z in omega (arith, a, b, c));
              same = λ z none _. (let a = one-within next ring next-here z in let b = one-within before ring here z in
                  let n2 : times z (next ∷ []) ≡ 0 = omega (arith, a, none) in
                  let n3 : times z (before ∷ []) ≡ 0 = omega (arith, b, none) in
                  let n1 : times z (cell ∷ []) ≡ 0 = omega (arith, none) in
                  writes3.same z n3 n3 ∙ (writes2.same z n2 n2 ∙ writes1.same z n1 n1));
            };
          }

-- a security alone is a ring
pub joined-alone : (h k : Heap) (cell : ℕ) (text : List ℕ) → security_at k cell ≡ Some (record { fields = record { flink = cell; blink = cell; count = 1 }; descriptor = text }) →
    IsPlainSecurity (held k cell) → 1 ≤ length text → length text ≤ DESCRIPTOR_LIMIT → Writes h k (cell ∷ []) → IsAdded h k [] cell text
joined-alone h k cell text reads plain some short writes = record {
  after = cell ∷ [];
  closed = record {
    circles = record {
      forward = ap (option_map (λ (s : KeySecurityRecord). s.fields.flink)) reads;
      back = ap (option_map (λ (s : KeySecurityRecord). s.fields.blink)) reads;
    };
    apart = (tt, tt);
    written = (
      record {
        security = record { fields = record { flink = cell; blink = cell; count = 1 }; descriptor = text };
        reads = reads;
        plain = plain;
        some = some;
        short = short;
      },
      tt,
    );
  };
  members = λ z. omega arith;
  describes = ap (option_map (λ (s : KeySecurityRecord). s.descriptor)) reads;
  count = ap (option_map (λ (s : KeySecurityRecord). s.fields.count)) reads;
  same = λ z l. absurd (omega (arith, l));
  frame = writes;
}
