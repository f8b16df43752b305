-- A ring that one of its securities left.
use Rattle.std.proofs.Common.{◌≡◌, ◌≢◌, ℕ, ◌+◌, ◌<◌, ◌≤◌, ◌==◌, cond, eqb, ◌⊎◌, inl, inr, is_some, IsSome, Option, Some, None, List, [], ◌∷◌, length}
use Rattle.std.proofs.Common.{refl, sym, ap, ◌∙◌, subst, arith}
use Rattle.std.specs.Prelude.{unwrap_or}
use Rattle.std.specs.List.{AllByRecursion}
use Rattle.std.specs.Option.{option_map}
use Rattle.std.proofs.lemmas.Option.{same_Some}
use Rattle.std.proofs.lemmas.Bool.{cases_eq, eq-eqb, ne_eqb}
use Rattle.reg_heap.specs.declared.limits.TheConstants.{DESCRIPTOR_LIMIT}
use Rattle.reg_heap.specs.Heaps.{Heap, CellFrame, Writes, GivesUp}
use Rattle.reg_heap.specs.Kinds.{times}
use Rattle.reg_records.specs.RecordCells.{held}
use Rattle.reg_records.specs.KeySecurities.{KeySecurityRecord, security_at, IsPlainSecurity}
use Rattle.reg_records.proofs.KeySecurityCodec.{security_at-same, security_at-open}
use Rattle.reg_shape.specs.Written.{Pairwise, IsWrittenSecurity}
use Rattle.reg_shape.specs.Whole.{IsRing, Leads, Circles, flink_at, blink_at, count_at, descriptor_at}
use Rattle.reg_shape.proofs.Wholeness.WholeAfterExchange.{all-members}
use Rattle.reg_security.specs.Rings.{IsRemoved}
use Rattle.reg_security.proofs.RingTurned.{times-first, once, written-at}

-- ---- what a security says

-- the descriptor
abbrev describes : KeySecurityRecord → List ℕ
describes r = r.descriptor

-- how many keys use it
abbrev counts : KeySecurityRecord → ℕ
counts r = r.fields.count

-- the next
abbrev leads_to : KeySecurityRecord → ℕ
leads_to r = r.fields.flink

-- the one before
abbrev leads_back_to : KeySecurityRecord → ℕ
leads_back_to r = r.fields.blink

-- ---- numbers in lists

-- what is not in a list is no number of it
pub not-in : (x z : ℕ) (xs : List ℕ) → times x xs ≡ 0 → 0 < times z xs → x ≢ z
not-in x z xs none some e = let zero : times z xs ≡ 0 = subst (λ k. times k xs ≡ 0) e none in omega (arith, zero, some)

-- the first of a list without repetitions is not among the others
pub first-once : (x : ℕ) (xs : List ℕ) → ((z : ℕ) → times z (x ∷ xs) ≤ 1) → times x xs ≡ 0
first-once x xs once =
    let one : ◌≡◌ {A = ℕ} (cond (eqb x x) 1 0) 1 = ap (λ b. cond b 1 0) (eq-eqb x x refl) in
    let all : cond (eqb x x) 1 0 + times x xs ≤ 1 = once x in
    omega (arith, one, all)

-- ---- one security in two heaps

-- a security that is read in a cell is there
pub security-there : (heap : Heap) (z : ℕ) → IsWrittenSecurity heap z → IsSome (security_at heap z)
security-there heap z w = ap is_some w.reads

-- the cell of a security is there
pub cell-there : (heap : Heap) (z : ℕ) → IsWrittenSecurity heap z → IsSome (heap z)
cell-there heap z w = let o = security_at-open heap z w.security w.reads in ap is_some o.1

-- a cell that holds the same holds a security still
pub written-same : (old new : Heap) (z : ℕ) → new z ≡ old z → IsWrittenSecurity old z → IsWrittenSecurity new z
written-same old new z e w = record {
  security = w.security;
  reads = security_at-same old new z e ∙ w.reads;
  plain = subst (λ (o : Option (List ℕ)). IsPlainSecurity (unwrap_or o [])) (sym e) w.plain;
  some = w.some;
  short = w.short;
}

-- a field of the security in one cell changed, and no other cell
module _ (old new : Heap) (cell : ℕ) (change : KeySecurityRecord → KeySecurityRecord) (descriptor : (r : KeySecurityRecord) → (change r).descriptor ≡ r.descriptor)
    (reads : (r : KeySecurityRecord) → security_at old cell ≡ Some r → security_at new cell ≡ Some (change r))
    (plain : IsPlainSecurity (held old cell) → IsPlainSecurity (held new cell)) (others : (z : ℕ) → z ≢ cell → new z ≡ old z) where
  -- what the change leaves alone is the same at every security
  part-kept : {A : Type 0} (f : KeySecurityRecord → A) → ((r : KeySecurityRecord) → f (change r) ≡ f r) → (z : ℕ) → IsWrittenSecurity old z →
      option_map f (security_at new z) ≡ option_map f (security_at old z)
  part-kept f same z w = by (cases_eq z cell)
    where
      by : (z ≡ cell) ⊎ (z ≡ cell → ⊥) → option_map f (security_at new z) ≡ option_map f (security_at old z)
      by (inl e) =
          let was : security_at old cell ≡ Some w.security = subst (λ k. security_at old k ≡ Some w.security) e w.reads in
          subst (λ k. option_map f (security_at new k) ≡ option_map f (security_at old k)) (sym e)
          (ap (option_map f) (reads w.security was) ∙ (ap Some (same w.security) ∙ sym (ap (option_map f) was)))
      by (inr n) = ap (option_map f) (security_at-same old new z (others z n))

  -- every security is one still
  written-kept : (z : ℕ) → IsWrittenSecurity old z → IsWrittenSecurity new z
  written-kept z w = by (cases_eq z cell)
    where
      by : (z ≡ cell) ⊎ (z ≡ cell → ⊥) → IsWrittenSecurity new z
      by (inl e) =
          let was : security_at old cell ≡ Some w.security = subst (λ k. security_at old k ≡ Some w.security) e w.reads in
          subst (IsWrittenSecurity new) (sym e) (record {
            security = change w.security;
            reads = reads w.security was;
            plain = plain (subst (λ k. IsPlainSecurity (held old k)) e w.plain);
            some = subst (λ (d : List ℕ). 1 ≤ length d) (sym (descriptor w.security)) w.some;
            short = subst (λ (d : List ℕ). length d ≤ DESCRIPTOR_LIMIT) (sym (descriptor w.security)) w.short;
          })
      by (inr n) = written-same old new z (others z n) w

-- ---- the ring without its first

-- the last of the chain is the security before the first
pub last-in : (heap : Heap) (cell last : ℕ) → blink_at heap cell ≡ Some last → (y : ℕ) (rest : List ℕ) → Leads heap y rest cell → 0 < times last (y ∷ rest)
last-in heap cell last e y [] l = subst (λ k. 0 < times last (k ∷ [])) (same_Some _ _ (sym e ∙ l.back)) (times-first last [])
last-in heap cell last e y (z ∷ rest) l = let far = last-in heap cell last e z rest l.1 in omega (arith, far)

-- the chain that led from a security round to the first, where the last of it leads to the second now
module _ (old new : Heap) (cell last next : ℕ) (led-back : blink_at old cell ≡ Some last)
    (forward-last : flink_at new last ≡ Some next) (back-next : blink_at new next ≡ Some last)
    (forward : (z : ℕ) → IsWrittenSecurity old z → z ≢ cell → z ≢ last → flink_at new z ≡ flink_at old z)
    (back : (z : ℕ) → IsWrittenSecurity old z → z ≢ cell → z ≢ next → blink_at new z ≡ blink_at old z) where
  -- the chain from the second on is closed
  leads-new : (y : ℕ) (rest : List ℕ) → Leads old y rest cell → AllByRecursion (IsWrittenSecurity old) (y ∷ rest) →
      ((z : ℕ) → times z (y ∷ rest) ≤ 1) → times cell (y ∷ rest) ≡ 0 → times next rest ≡ 0 → Leads new y rest next
  leads-new y [] l w once apart none =
      let is : y ≡ last = same_Some _ _ (sym l.back ∙ led-back) in
      record { forward = subst (λ k. flink_at new k ≡ Some next) (sym is) forward-last; back = back-next ∙ ap Some (sym is) }
  leads-new y (z ∷ rest) l w once apart none =
      let far : 0 < times last (z ∷ rest) = last-in old cell last led-back z rest l.1 in
      let alone : times y (z ∷ rest) ≡ 0 = first-once y (z ∷ rest) once in
      let y-stays : y ≢ cell = (λ e. not-in cell y (y ∷ z ∷ rest) apart (times-first y (z ∷ rest)) (sym e)) in
      let z-stays : z ≢ cell = (λ e. not-in cell z (z ∷ rest) (omega (arith, apart)) (times-first z rest) (sym e)) in
      let z-later : z ≢ next = (λ e. not-in next z (z ∷ rest) none (times-first z rest) (sym e)) in (
        record { forward = forward y w.0 y-stays (not-in y last (z ∷ rest) alone far) ∙ l.0.forward; back = back z w.1.0 z-stays z-later ∙ l.0.back },
        leads-new z rest l.1 w.1 (λ x. let all = once x in omega (arith, all)) (omega (arith, apart)) (omega (arith, none)),
      )

-- securities with descriptors that differ have them still
module _ (old new : Heap) where
  -- a security describes the same
  abbrev Stays : ℕ → Type 0
  Stays z = descriptor_at new z ≡ descriptor_at old z

  -- two securities describe differently
  abbrev Differs : Heap → ℕ → ℕ → Type 0
  Differs heap a b = descriptor_at heap a ≢ descriptor_at heap b

  -- one differs from the others still
  differs-one : (y : ℕ) → Stays y → (ring : List ℕ) → AllByRecursion Stays ring → AllByRecursion (Differs old y) ring → AllByRecursion (Differs new y) ring
  differs-one y r [] a d = tt
  differs-one y r (z ∷ ring) a d = ((λ same. d.0 (sym r ∙ (same ∙ a.0))), differs-one y r ring a.1 d.1)

  -- each differs from the others still
  pub differ-still : (ring : List ℕ) → AllByRecursion Stays ring → Pairwise (Differs old) ring → Pairwise (Differs new) ring
  differ-still [] a d = tt
  differ-still (z ∷ ring) a d = (differs-one z a.0 ring a.1 d.0, differ-still ring a.1 d.1)

-- ---- one that leaves others

-- where a security leads to another one, that one is the next of its ring
second : (heap : Heap) (cell next : ℕ) → flink_at heap cell ≡ Some next → next ≢ cell → (rest : List ℕ) → Leads heap cell rest cell → (tail : List ℕ) × (rest ≡ next ∷ tail)
second heap cell next e n [] l = absurd (n (same_Some _ _ (sym e ∙ l.forward)))
second heap cell next e n (z ∷ tail) l = (tail, ap (λ k. k ∷ tail) (same_Some _ _ (sym l.0.forward ∙ e)))

-- a security that leads to another one
abbrev pub WithFlink : ℕ → KeySecurityRecord → KeySecurityRecord
WithFlink flink r = record r { fields = record r.fields { flink = flink } }

-- a security that leads back to another one
abbrev pub WithBlink : ℕ → KeySecurityRecord → KeySecurityRecord
WithBlink blink r = record r { fields = record r.fields { blink = blink } }

-- the security's own record, and the ring from it on
module _ (old : Heap) (cell : ℕ) (s : KeySecurityRecord) (read : security_at old cell ≡ Some s) (rest : List ℕ) (closed : IsRing old (cell ∷ rest)) where
  -- a security of the ring is written so
  written-in : (z : ℕ) → 0 < times z (cell ∷ rest) → IsWrittenSecurity old z
  written-in z l = written-at old (cell ∷ rest) closed z l

  -- the one before it is of the ring
  pub blink-in : 0 < times s.fields.blink (cell ∷ rest)
  blink-in = last-in old cell s.fields.blink (ap (option_map leads_back_to) read) cell rest closed.circles

  -- the one after it is of the ring
  pub flink-in : 0 < times s.fields.flink (cell ∷ rest)
  flink-in = by rest closed.circles
    where
      leads : flink_at old cell ≡ Some s.fields.flink
      leads = ap (option_map leads_to) read

      by : (xs : List ℕ) → Leads old cell xs cell → 0 < times s.fields.flink (cell ∷ xs)
      by [] l = subst (λ k. 0 < times k (cell ∷ [])) (same_Some _ _ (sym l.forward ∙ leads)) (times-first cell [])
      by (z ∷ xs) l =
          let far : 0 < times s.fields.flink (z ∷ xs) = subst (λ k. 0 < times k (z ∷ xs)) (same_Some _ _ (sym l.0.forward ∙ leads)) (times-first z xs) in
          omega (arith, far)

  -- the one before it is written so
  pub blink-written : IsWrittenSecurity old s.fields.blink
  blink-written = written-in s.fields.blink blink-in

  -- the one before it leads to the one after it now
  module _ (led : Heap)
      (reads-led : (r : KeySecurityRecord) → security_at old s.fields.blink ≡ Some r → security_at led s.fields.blink ≡ Some (WithFlink s.fields.flink r))
      (plain-led : IsPlainSecurity (held old s.fields.blink) → IsPlainSecurity (held led s.fields.blink))
      (others-led : (z : ℕ) → z ≢ s.fields.blink → led z ≡ old z) where
    -- what the link leaves alone
    part-led : {A : Type 0} (f : KeySecurityRecord → A) → ((r : KeySecurityRecord) → f (WithFlink s.fields.flink r) ≡ f r) → (z : ℕ) → IsWrittenSecurity old z →
        option_map f (security_at led z) ≡ option_map f (security_at old z)
    part-led f same z w = part-kept old led s.fields.blink (WithFlink s.fields.flink) (λ r. refl) reads-led plain-led others-led f same z w

    -- every security is one still
    written-led : (z : ℕ) → IsWrittenSecurity old z → IsWrittenSecurity led z
    written-led = written-kept old led s.fields.blink (WithFlink s.fields.flink) (λ r. refl) reads-led plain-led others-led

    -- the one after it is written so
    pub flink-written : IsWrittenSecurity led s.fields.flink
    flink-written = written-led s.fields.flink (written-in s.fields.flink flink-in)

    -- and that one leads back
    module _ (tied : Heap)
        (reads-tied : (r : KeySecurityRecord) → security_at led s.fields.flink ≡ Some r → security_at tied s.fields.flink ≡ Some (WithBlink s.fields.blink r))
        (plain-tied : IsPlainSecurity (held led s.fields.flink) → IsPlainSecurity (held tied s.fields.flink))
        (others-tied : (z : ℕ) → z ≢ s.fields.flink → tied z ≡ led z) where
      -- what the link back leaves alone
      part-tied : {A : Type 0} (f : KeySecurityRecord → A) → ((r : KeySecurityRecord) → f (WithBlink s.fields.blink r) ≡ f r) → (z : ℕ) → IsWrittenSecurity led z →
          option_map f (security_at tied z) ≡ option_map f (security_at led z)
      part-tied f same z w = part-kept led tied s.fields.flink (WithBlink s.fields.blink) (λ r. refl) reads-tied plain-tied others-tied f same z w

      -- every security is one still
      written-tied : (z : ℕ) → IsWrittenSecurity old z → IsWrittenSecurity tied z
      written-tied z w =
          written-kept led tied s.fields.flink (WithBlink s.fields.blink) (λ r. refl) reads-tied plain-tied others-tied z (written-led z w)

      -- its own cell is there yet
      pub left-there : IsSome (tied cell)
      left-there = cell-there tied cell (written-tied cell closed.written.0)

      -- and its cell is freed
      module _ (new : Heap) (contents : (z : ℕ) → new z ≡ cond (z == cell) None (tied z)) where
        -- each other cell holds the same
        stays-freed : (z : ℕ) → z ≢ cell → new z ≡ tied z
        stays-freed z n = contents z ∙ rw (ne_eqb z cell n) refl

        -- each other security is one still
        written-new : (z : ℕ) → IsWrittenSecurity old z → z ≢ cell → IsWrittenSecurity new z
        written-new z w n = written-same tied new z (stays-freed z n) (written-tied z w)

        -- each other security describes the same
        descriptor-new : (z : ℕ) → IsWrittenSecurity old z → z ≢ cell → descriptor_at new z ≡ descriptor_at old z
        descriptor-new z w n =
            ap (option_map describes) (security_at-same tied new z (stays-freed z n))
            ∙ (part-tied describes (λ r. refl) z (written-led z w)
            ∙ part-led describes (λ r. refl) z w)

        -- each other security counts as many keys
        count-new : (z : ℕ) → IsWrittenSecurity old z → z ≢ cell → count_at new z ≡ count_at old z
        count-new z w n =
            ap (option_map counts) (security_at-same tied new z (stays-freed z n))
            ∙ (part-tied counts (λ r. refl) z (written-led z w)
            ∙ part-led counts (λ r. refl) z w)

        -- where a security leads once its neighbour has been led back
        flink-new : (z : ℕ) → IsWrittenSecurity old z → z ≢ cell → flink_at new z ≡ flink_at led z
        flink-new z w n =
            ap (option_map leads_to) (security_at-same tied new z (stays-freed z n))
            ∙ part-tied leads_to (λ r. refl) z (written-led z w)

        -- each that isn't before it leads where it led
        forward-new : (z : ℕ) → IsWrittenSecurity old z → z ≢ cell → z ≢ s.fields.blink → flink_at new z ≡ flink_at old z
        forward-new z w n m = flink-new z w n ∙ ap (option_map leads_to) (security_at-same old led z (others-led z m))

        -- each that isn't after it leads back where it did
        back-new : (z : ℕ) → IsWrittenSecurity old z → z ≢ cell → z ≢ s.fields.flink → blink_at new z ≡ blink_at old z
        back-new z w n m =
            ap (option_map leads_back_to) (security_at-same tied new z (stays-freed z n) ∙ security_at-same led tied z (others-tied z m))
            ∙ part-led leads_back_to (λ r. refl) z w

        -- the one before it leads to the one after it
        last-new : s.fields.blink ≢ cell → flink_at new s.fields.blink ≡ Some s.fields.flink
        last-new n =
            let w = blink-written in
            flink-new s.fields.blink w n ∙ ap (option_map leads_to) (reads-led w.security w.reads)

        -- and that one leads back to it
        first-new : s.fields.flink ≢ cell → blink_at new s.fields.flink ≡ Some s.fields.blink
        first-new n =
            let w = flink-written in
            ap (option_map leads_back_to) (security_at-same tied new s.fields.flink (stays-freed s.fields.flink n) ∙ reads-tied w.security w.reads)

        -- what changed of the cells
        module _ (writes-led : Writes old led (s.fields.blink ∷ [])) (writes-tied : Writes led tied (s.fields.flink ∷ []))
            (gone : GivesUp tied new (cell ∷ [])) (ring : List ℕ) (members : (z : ℕ) → times z (cell ∷ rest) ≡ times z ring) where
          -- the security is not among the others
          apart : (z : ℕ) → 0 < times z rest → z ≢ cell
          apart z l e = not-in cell z rest (first-once cell rest (once old (cell ∷ rest) closed)) l (sym e)

          -- the cells of the ring before and after
          framed : CellFrame old new (λ z. times z ring) (λ z. times z rest)
          framed = record {
            count = λ z.
                (let m = members z in
                let a = writes-led.count z in
                let b = writes-tied.count z in
                let c = gone.count z in
                omega (arith, m, a, b, c));
            same = λ z g k.
                (let none : times z (cell ∷ rest) ≡ 0 = members z ∙ g in
                stays-freed z (not-in z cell (cell ∷ rest) none (times-first cell rest))
                ∙ (others-tied z (not-in z s.fields.flink (cell ∷ rest) none flink-in) ∙ others-led z (not-in z s.fields.blink (cell ∷ rest) none blink-in)));
          }

          -- the others describe the same
          described : AllByRecursion (λ z. descriptor_at new z ≡ descriptor_at old z) rest
          described = all-members (λ z. descriptor_at new z ≡ descriptor_at old z) rest (λ z l. descriptor-new z (written-in z (omega arith)) (apart z l))

          -- the chain of the others is closed
          circles-new : s.fields.flink ≢ cell → Circles new rest
          circles-new n =
              let leads : flink_at old cell ≡ Some s.fields.flink = ap (option_map leads_to) read in
              let led-back : blink_at old cell ≡ Some s.fields.blink = ap (option_map leads_back_to) read in
              let t = second old cell s.fields.flink leads n rest closed.circles in
              let chain : Leads old cell (s.fields.flink ∷ t.0) cell = subst (λ xs. Leads old cell xs cell) t.1 closed.circles in
              let written : AllByRecursion (IsWrittenSecurity old) (s.fields.flink ∷ t.0) = subst (AllByRecursion (IsWrittenSecurity old)) t.1 closed.written.1 in
              let one : (z : ℕ) → times z (cell ∷ s.fields.flink ∷ t.0) ≤ 1 = subst (λ xs. (z : ℕ) → times z (cell ∷ xs) ≤ 1) t.1 (once old (cell ∷ rest) closed) in
              let left : (z : ℕ) → times z (s.fields.flink ∷ t.0) ≤ 1 = (λ z. let all = one z in omega (arith, all)) in
              let last : 0 < times s.fields.blink (s.fields.flink ∷ t.0) = last-in old cell s.fields.blink led-back s.fields.flink t.0 chain.1 in
              let m : s.fields.blink ≢ cell = apart s.fields.blink (subst (λ xs. 0 < times s.fields.blink xs) (sym t.1) last) in
              subst (Circles new) (sym t.1) (leads-new old new cell s.fields.blink s.fields.flink led-back (last-new m) (first-new n) forward-new back-new
              s.fields.flink t.0 chain.1 written left (first-once cell (s.fields.flink ∷ t.0) one) (first-once s.fields.flink t.0 left))

          -- the ring without it
          pub removed-others : s.fields.flink ≢ cell → IsRemoved old new ring cell
          removed-others n = record {
            after = rest;
            closed = record {
              circles = circles-new n;
              apart = differ-still old new rest described closed.apart.1;
              written = all-members (IsWrittenSecurity new) rest (λ z l. written-new z (written-in z (omega arith)) (apart z l));
            };
            members = λ z. (let m = members z in omega (arith, m));
            same = λ z l. record { descriptor = descriptor-new z (written-in z (omega arith)) (apart z l); count = count-new z (written-in z (omega arith)) (apart z l) };
            frame = framed;
          }

-- ---- the only one

-- a ring of one security, which is freed
pub removed-alone : (old new : Heap) (cell : ℕ) (s : KeySecurityRecord) → security_at old cell ≡ Some s → (rest : List ℕ) → IsRing old (cell ∷ rest) →
    s.fields.flink ≡ cell → GivesUp old new (cell ∷ []) → (ring : List ℕ) → ((z : ℕ) → times z (cell ∷ rest) ≡ times z ring) → IsRemoved old new ring cell
removed-alone old new cell s read [] closed flink gone ring members = record {
  after = [];
  closed = record { circles = tt; apart = tt; written = tt };
  members = λ z. (let m = members z in omega (arith, m));
  same = λ z l. absurd (omega (arith, l));
  frame = record {
    count = λ z. (let m = members z in let c = gone.count z in omega (arith, m, c));
    same = λ z g k. (let m = members z in gone.same z (omega (arith, m, g)) refl);
  };
}
removed-alone old new cell s read (next ∷ rest) closed flink gone ring members =
    let leads : flink_at old cell ≡ Some s.fields.flink = ap (option_map leads_to) read in
    let e : next ≡ cell = same_Some _ _ (sym closed.circles.0.forward ∙ leads) ∙ flink in
    absurd (not-in cell next (next ∷ rest) (first-once cell (next ∷ rest) (once old (cell ∷ next ∷ rest) closed)) (times-first next rest) (sym e))
