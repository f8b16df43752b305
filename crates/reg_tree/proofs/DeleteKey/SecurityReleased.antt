-- A security that one key node less names: the ring after it, and how often each security of it is used.
use Rattle.std.proofs.Common.{◌≡◌, ◌≢◌, inl, inr, ◌⊎◌, ℕ, zero, suc, ◌+◌, ◌-◌, ◌<◌, ◌≤◌, Some, List, [], ◌∷◌, refl, sym, ap, ◌∙◌, subst, arith}
use Rattle.std.specs.Prelude.{unwrap_or}
use Rattle.std.specs.Option.{option_map}
use Rattle.std.proofs.lemmas.Bool.{cases_eq}
use Rattle.std.proofs.lemmas.Option.{same_Some}
use Rattle.reg_heap.specs.Heaps.{Heap, CellFrame}
use Rattle.reg_heap.specs.Kinds.{times}
use Rattle.reg_records.specs.KeySecurities.{KeySecurityRecord, security_at}
use Rattle.reg_records.proofs.KeySecurityCodec.{security_at-same}
use Rattle.reg_shape.specs.Written.{IsWrittenSecurity}
use Rattle.reg_shape.specs.Whole.{IsRing, count_at, descriptor_at}
use Rattle.reg_shape.specs.Internal.Grafts.{uses_in}
use Rattle.reg_shape.proofs.Wholeness.ShapeRecords.{all-at}
use Rattle.reg_shape.proofs.Graft.WholeAfterGraft.{where-there, where-none, uses-counted}
use Rattle.reg_values.proofs.ValueFreeing.FrameChains.{times-same}
use Rattle.reg_index.proofs.SubkeysFrame.{times-not}
use Rattle.reg_security.specs.Rings.{DescriptorCells, Finds, IsRemoved, Recounts}
use Rattle.reg_security.proofs.RingTurned.{once}
use Rattle.reg_security.proofs.RingCounted.{descriptor-recounted}
use Rattle.reg_tree.proofs.Invariant.CellReadings.{is_some_of, security-exists}
use Rattle.reg_tree.proofs.Invariant.UntouchedCells.{written-allocated}

-- the ring after has the securities that are used still: one is used once less than before, and each other as often; they describe
-- the same, and no cell beside the ring's changed
pub record ReleasesFrom (old new : Heap) (ring after : List ℕ) (security : ℕ) : Type 0 where
  pub closed : IsRing new after
  pub within : (z : ℕ) → times z after ≤ times z ring
  pub fewer : (z : ℕ) → uses_in new after z + times z (security ∷ []) ≡ uses_in old ring z
  pub used : (z : ℕ) → 0 < times z after → 0 < uses_in new after z
  pub described : (z : ℕ) → 0 < times z after → descriptor_at new z ≡ descriptor_at old z
  pub frame : CellFrame old new (λ z. times z ring) (λ z. times z after)

-- and a table finds them
pub record Releases (old new : Heap) (ring : List ℕ) (security : ℕ) (table : DescriptorCells) : Type 0 where
  pub after : List ℕ
  pub from : ReleasesFrom old new ring after security
  pub finds : Finds table new after

-- what is used is in the ring
pub used-in : (heap : Heap) (ring : List ℕ) (z : ℕ) → 0 < uses_in heap ring z → 0 < times z ring
used-in heap ring z some = by (times z ring) refl
  where
    by : (t : ℕ) → times z ring ≡ t → 0 < times z ring
    by zero e = let none = where-none (times z ring) (unwrap_or (count_at heap z) 0) e in absurd (omega (arith, none, some))
    by (suc t) e = omega (arith, e)

-- a security of two rings is used as often where it counts as many
pub same-uses : (h k : Heap) (ring after : List ℕ) (z : ℕ) → times z after ≡ times z ring → (0 < times z after → count_at k z ≡ count_at h z) → uses_in k after z ≡ uses_in h ring z
same-uses h k ring after z same counts = by (times z ring) refl
  where
    by : (t : ℕ) → times z ring ≡ t → uses_in k after z ≡ uses_in h ring z
    by zero e = where-none (times z after) (unwrap_or (count_at k z) 0) (same ∙ e) ∙ sym (where-none (times z ring) (unwrap_or (count_at h z) 0) e)
    by (suc t) e =
        let there : 0 < times z ring = omega (arith, e) in
        let now : 0 < times z after = omega (arith, e, same) in
        where-there (times z after) (unwrap_or (count_at k z) 0) now
        ∙ (ap (λ o. unwrap_or o 0) (counts now)
        ∙ sym (where-there (times z ring) (unwrap_or (count_at h z) 0) there))

module _ (h k : Heap) (ring : List ℕ) (s : ℕ) (closed : IsRing h ring) (here : 0 < times s ring) (used : (z : ℕ) → 0 < times z ring → 0 < uses_in h ring z) where
  -- ---- counted down

  module _ (n : ℕ) (counts : count_at h s ≡ Some n) (more : 1 < n) (re : Recounts h k s (λ n. n - 1)) (then : IsRing k ring) where
    written : IsWrittenSecurity h s
    written = all-at (IsWrittenSecurity h) ring s closed.written here

    its-count : n ≡ written.security.fields.count
    its-count = same_Some _ _ (sym counts ∙ ap (option_map (λ (s : KeySecurityRecord). s.fields.count)) written.reads)

    now : security_at k s ≡ Some (record written.security { fields = record written.security.fields { count = written.security.fields.count - 1 } })
    now = re.reads written.security written.reads

    uses-before : uses_in h ring s ≡ n
    uses-before = uses-counted h ring s n here counts

    uses-here : uses_in k ring s ≡ written.security.fields.count - 1
    uses-here = uses-counted k ring s (written.security.fields.count - 1) here (ap (option_map (λ (s : KeySecurityRecord). s.fields.count)) now)

    uses-there : (z : ℕ) → z ≢ s → uses_in k ring z ≡ uses_in h ring z
    uses-there z n = same-uses h k ring ring z refl (λ l. ap (option_map (λ (s : KeySecurityRecord). s.fields.count)) (security_at-same h k z (re.others z n)))

    uses-fewer : (z : ℕ) → uses_in k ring z + times z (s ∷ []) ≡ uses_in h ring z
    uses-fewer z = by (cases_eq z s)
      where
        by : (z ≡ s) ⊎ (z ≢ s) → uses_in k ring z + times z (s ∷ []) ≡ uses_in h ring z
        by (inl e) =
            subst (λ z. uses_in k ring z + times z (s ∷ []) ≡ uses_in h ring z) (sym e)
            (let a = uses-before in let b = uses-here in let c = its-count in let t = times-same s in omega (arith, a, b, c, t, more))
        by (inr n) = let a = uses-there z n in let t = times-not z s [] (λ e. n (sym e)) refl in omega (arith, a, t)

    used-still : (z : ℕ) → 0 < times z ring → 0 < uses_in k ring z
    used-still z l = by (cases_eq z s)
      where
        by : (z ≡ s) ⊎ (z ≢ s) → 0 < uses_in k ring z
        by (inl e) = subst (λ z. 0 < uses_in k ring z) (sym e) (let b = uses-here in let c = its-count in omega (arith, b, c, more))
        by (inr n) = let a = uses-there z n in let u = used z l in omega (arith, a, u)

    there-before : (z : ℕ) → times z ring ≡ 0 → z ≢ s
    there-before z none e = let t = ap (λ y. times y ring) e in omega (arith, t, none, here)

    pub released-fewer : ReleasesFrom h k ring ring s
    released-fewer = record {
      closed = then;
      within = λ z. omega arith;
      fewer = uses-fewer;
      used = used-still;
      described = descriptor-recounted h k s (λ n. n - 1) re ring closed;
      frame = record {
        count = λ z.
            (let a = written-allocated h k s re.others (security-exists h s (is_some_of _ _ written.reads)) (security-exists k s (is_some_of _ _ now)) z in
            omega (arith, a));
        same = λ z none gone. re.others z (there-before z none);
      };
    }

  -- ---- taken out

  module _ (counts : count_at h s ≡ Some 1) (r : IsRemoved h k ring s) where
    gone : times s r.after ≡ 0
    gone = let m = r.members s in let o = once h ring closed s in let t = times-same s in omega (arith, m, o, t)

    stays-apart : (z : ℕ) → 0 < times z r.after → z ≢ s
    stays-apart z l e = let t = ap (λ y. times y r.after) e in let g = gone in omega (arith, t, g, l)

    uses-left : (z : ℕ) → z ≢ s → uses_in k r.after z ≡ uses_in h ring z
    uses-left z n =
        let m = r.members z in
        let t = times-not z s [] (λ e. n (sym e)) refl in
        same-uses h k ring r.after z (omega (arith, m, t)) (λ l. (r.same z l).count)

    uses-less : (z : ℕ) → uses_in k r.after z + times z (s ∷ []) ≡ uses_in h ring z
    uses-less z = by (cases_eq z s)
      where
        by : (z ≡ s) ⊎ (z ≢ s) → uses_in k r.after z + times z (s ∷ []) ≡ uses_in h ring z
        by (inl e) =
            subst (λ z. uses_in k r.after z + times z (s ∷ []) ≡ uses_in h ring z) (sym e)
            (let a = uses-counted h ring s 1 here counts in
            let b = where-none (times s r.after) (unwrap_or (count_at k s) 0) gone in
            let t = times-same s in
            omega (arith, a, b, t))
        by (inr n) = let a = uses-left z n in let t = times-not z s [] (λ e. n (sym e)) refl in omega (arith, a, t)

    pub released-last : ReleasesFrom h k ring r.after s
    released-last = record {
      closed = r.closed;
      within = λ z. (let m = r.members z in omega (arith, m));
      fewer = uses-less;
      used = λ z l. (let a = uses-left z (stays-apart z l) in let m = r.members z in let u = used z (omega (arith, m, l)) in omega (arith, a, u));
      described = λ z l. (r.same z l).descriptor;
      frame = r.frame;
    }

  -- ---- either

  module _ (t u : DescriptorCells) (finds : Finds t h ring)
      (fewer : (n : ℕ) → count_at h s ≡ Some n → 1 < n →
      Recounts h k s (λ n. n - 1) × (u ≡ t) × ((ring : List ℕ) → IsRing h ring → Finds t h ring → IsRing k ring × Finds u k ring))
      (last : count_at h s ≡ Some 1 → (ring : List ℕ) → IsRing h ring → 0 < times s ring → Finds t h ring → (r : IsRemoved h k ring s) × Finds u k r.after) where
    pub released : (n : ℕ) → count_at h s ≡ Some n → Releases h k ring s u
    released zero e = absurd (let a = uses-counted h ring s 0 here e in let b = used s here in omega (arith, a, b))
    released (suc zero) e =
        let r = last e ring closed here finds in
        record { after = r.0.after; from = released-last e r.0; finds = r.1 }
    released (suc (suc n)) e =
        let f = fewer (suc (suc n)) e (omega arith) in
        let g = f.2 ring closed finds in
        record { after = ring; from = released-fewer (suc (suc n)) e (omega arith) f.0 g.0; finds = g.1 }
