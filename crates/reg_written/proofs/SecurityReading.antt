-- What a reading of a security's cell tells of its content.
use Rattle.std.proofs.Common.{◌≡◌, ℕ, ◌≤◌, List, [], length, Option, Some, None, IsSome, unwrap_or, refl, sym, ap, ◌∙◌, arith}
use Rattle.std.specs.Prelude.{Err}
use Rattle.std.specs.Option.{option_map}
use Rattle.reg_heap.specs.Heaps.{Heap}
use Rattle.reg_records.specs.RecordCells.{held}
use Rattle.reg_records.specs.KeySecurities.{KeySecurityRecord, security_at, sk_of}
use Rattle.reg_records.specs.declared.RecordFault.{RecordFault}
use Rattle.reg_records.proofs.KeySecurityCodec.{security_at-open, sk-open}
use Rattle.reg_shape.specs.Whole.{blink_at}

some_of : {A : Type 0} (o : Option A) → IsSome o → (x : A) × (o ≡ Some x)
some_of None s = absurd (cc)
some_of (Some x) s = (x, refl)

module _ (h : Heap) (o : ℕ) (content : List ℕ) (some : IsSome (security_at h o)) (is : (held : List ℕ) → h o ≡ Some held → content ≡ held) where
  -- this is what the cell holds
  pub content-of : h o ≡ Some content
  content-of =
      let s = some_of (security_at h o) some in
      let t = security_at-open h o s.0 s.1 in
      t.1 ∙ ap Some (sym (is t.0 t.1))

  -- it reads without a fault
  pub no-fault : (fault : RecordFault) → sk_of content ≡ Err fault → ⊥
  no-fault fault e =
      let s = some_of (security_at h o) some in
      let t = security_at-open h o s.0 s.1 in
      let same = is t.0 t.1 in
      let reads = t.2 in
      cc

  -- it has a fixed part
  pub content-long : 20 ≤ length content
  content-long =
      let s = some_of (security_at h o) some in
      let t = security_at-open h o s.0 s.1 in
      let l = (sk-open t.0 s.0 t.2).long in
      let same : length content ≡ length t.0 = ap length (is t.0 t.1) in
      omega (arith, l, same)

  pub held-is : held h o ≡ content
  held-is = ap (λ c. unwrap_or c []) content-of

-- what a security that reads so leads back to
pub blink-of : (h : Heap) (o : ℕ) (s : KeySecurityRecord) → security_at h o ≡ Some s → blink_at h o ≡ Some s.fields.blink
blink-of h o s e = ap (option_map (λ (s : KeySecurityRecord). s.fields.blink)) e
