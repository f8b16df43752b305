-- A ring stays one where a security counts more keys or fewer.
use Rattle.std.proofs.Common.{◌≡◌, ◌≢◌, ◌⊎◌, inl, inr, ℕ, ◌<◌, ◌≤◌, List, [], ◌∷◌, length, Some, IsSome, refl, sym, ap, ◌∙◌, subst}
use Rattle.std.specs.List.{AllByRecursion}
use Rattle.std.specs.Prelude.{Option, unwrap_or}
use Rattle.std.specs.Option.{option_map}
use Rattle.std.proofs.lemmas.Option.{same_Some}
use Rattle.std.proofs.lemmas.Bool.{cases_eq}
use Rattle.reg_heap.specs.declared.limits.TheConstants.{DESCRIPTOR_LIMIT}
use Rattle.reg_records.specs.RecordCells.{Heap, held}
use Rattle.reg_records.specs.KeySecurities.{KeySecurityRecord, security_at, IsPlainSecurity}
use Rattle.reg_records.proofs.KeySecurityCodec.{security_at-same}
use Rattle.reg_shape.specs.Written.{Pairwise, IsWrittenSecurity}
use Rattle.reg_shape.proofs.Wholeness.ShapeRecords.{all-at}
use Rattle.reg_heap.specs.Kinds.{times}
use Rattle.reg_shape.specs.Whole.{IsRing, Links, Leads, Circles, descriptor_at}
use Rattle.reg_security.specs.Rings.{Recounts}

-- a security reads the same but for its count
record IsCounted (old new : Heap) (cell : ℕ) : Type 0 where
  security : KeySecurityRecord
  count : ℕ
  reads : security_at old cell ≡ Some security
  now : security_at new cell ≡ Some (record security { fields = record security.fields { count = count } })
  plain : IsPlainSecurity (held old cell) → IsPlainSecurity (held new cell)

module _ (h k : Heap) where
  links-counted : (a b : ℕ) → IsCounted h k a → IsCounted h k b → Links h a b → Links k a b
  links-counted a b ra rb l = record {
    forward = ap (option_map (λ (s : KeySecurityRecord). s.fields.flink)) ra.now ∙ (sym (ap (option_map (λ (s : KeySecurityRecord). s.fields.flink)) ra.reads) ∙ l.forward);
    back = ap (option_map (λ (s : KeySecurityRecord). s.fields.blink)) rb.now ∙ (sym (ap (option_map (λ (s : KeySecurityRecord). s.fields.blink)) rb.reads) ∙ l.back);
  }

  leads-counted : (y end : ℕ) (rest : List ℕ) → IsCounted h k y → AllByRecursion (IsCounted h k) rest → IsCounted h k end → Leads h y rest end → Leads k y rest end
  leads-counted y end [] e a f c = links-counted y end e f c
  leads-counted y end (z ∷ rest) e a f c = (links-counted y z e a.0 c.0, leads-counted z end rest a.0 a.1 f c.1)

  circles-counted : (ring : List ℕ) → AllByRecursion (IsCounted h k) ring → Circles h ring → Circles k ring
  circles-counted [] a c = c
  circles-counted (first ∷ rest) a c = leads-counted first first rest a.0 a.1 a.0 c

  descriptor-counted : (z : ℕ) → IsCounted h k z → descriptor_at k z ≡ descriptor_at h z
  descriptor-counted z r = ap (option_map (λ (s : KeySecurityRecord). s.descriptor)) r.now ∙ sym (ap (option_map (λ (s : KeySecurityRecord). s.descriptor)) r.reads)

  abbrev Differs : Heap → ℕ → ℕ → Type 0
  Differs heap a b = descriptor_at heap a ≡ descriptor_at heap b → ⊥

  differs-one : (y : ℕ) → IsCounted h k y → (ring : List ℕ) → AllByRecursion (IsCounted h k) ring → AllByRecursion (Differs h y) ring → AllByRecursion (Differs k y) ring
  differs-one y r [] a d = tt
  differs-one y r (z ∷ ring) a d = ((λ same. d.0 (sym (descriptor-counted y r) ∙ (same ∙ descriptor-counted z a.0))), differs-one y r ring a.1 d.1)

  differs-counted : (ring : List ℕ) → AllByRecursion (IsCounted h k) ring → Pairwise (Differs h) ring → Pairwise (Differs k) ring
  differs-counted [] a d = tt
  differs-counted (z ∷ ring) a d = (differs-one z a.0 ring a.1 d.0, differs-counted ring a.1 d.1)

  written-counted : (z : ℕ) → IsCounted h k z → IsWrittenSecurity h z → IsWrittenSecurity k z
  written-counted z r w =
      let same : w.security ≡ r.security = same_Some _ _ (sym w.reads ∙ r.reads) in
      record {
        security = record r.security { fields = record r.security.fields { count = r.count } };
        reads = r.now;
        plain = r.plain w.plain;
        some = subst (λ (s : KeySecurityRecord). 1 ≤ length s.descriptor) same w.some;
        short = subst (λ (s : KeySecurityRecord). length s.descriptor ≤ DESCRIPTOR_LIMIT) same w.short;
      }

  all-written : (ring : List ℕ) → AllByRecursion (IsCounted h k) ring → AllByRecursion (IsWrittenSecurity h) ring → AllByRecursion (IsWrittenSecurity k) ring
  all-written [] a w = tt
  all-written (z ∷ ring) a w = (written-counted z a.0 w.0, all-written ring a.1 w.1)

  ring-counted : (ring : List ℕ) → AllByRecursion (IsCounted h k) ring → IsRing h ring → IsRing k ring
  ring-counted ring a r = record {
    circles = circles-counted ring a r.circles;
    apart = differs-counted ring a r.apart;
    written = all-written ring a r.written;
  }

module _ (h k : Heap) (cell : ℕ) (change : ℕ → ℕ) (r : Recounts h k cell change) where
  counted-one : (z : ℕ) → IsWrittenSecurity h z → IsCounted h k z
  counted-one z w = by (cases_eq z cell)
    where
      by : (z ≡ cell) ⊎ (z ≢ cell) → IsCounted h k z
      by (inl e) = record {
        security = w.security;
        count = change w.security.fields.count;
        reads = w.reads;
        now = subst (λ z. security_at k z ≡ Some (record w.security { fields = record w.security.fields { count = change w.security.fields.count } })) (sym e)
            (r.reads w.security (subst (λ z. security_at h z ≡ Some w.security) e w.reads));
        plain = subst (λ z. IsPlainSecurity (held h z) → IsPlainSecurity (held k z)) (sym e) r.plain;
      }
      by (inr n) = record {
        security = w.security;
        count = w.security.fields.count;
        reads = w.reads;
        now = security_at-same h k z (r.others z n) ∙ w.reads;
        plain = subst (λ (c : Option (List ℕ)). IsPlainSecurity (held h z) → IsPlainSecurity (unwrap_or c [])) (sym (r.others z n)) (λ p. p);
      }

  all-counted : (ring : List ℕ) → AllByRecursion (IsWrittenSecurity h) ring → AllByRecursion (IsCounted h k) ring
  all-counted [] w = tt
  all-counted (z ∷ ring) w = (counted-one z w.0, all-counted ring w.1)

  -- the ring is the same one, and one again
  pub ring-recounted : (ring : List ℕ) → IsRing h ring → IsRing k ring
  ring-recounted ring i = ring-counted h k ring (all-counted ring i.written) i

  -- the securities of a ring describe what they did
  pub descriptor-recounted : (ring : List ℕ) → IsRing h ring → (z : ℕ) → 0 < times z ring → descriptor_at k z ≡ descriptor_at h z
  descriptor-recounted ring i z l = descriptor-counted h k z (counted-one z (all-at (IsWrittenSecurity h) ring z i.written l))

-- a security of a ring is there
pub security-there : (h : Heap) (ring : List ℕ) → IsRing h ring → (z : ℕ) → 0 < times z ring → IsSome (security_at h z)
security-there h ring i z l = subst IsSome (sym (all-at (IsWrittenSecurity h) ring z i.written l).reads) refl
