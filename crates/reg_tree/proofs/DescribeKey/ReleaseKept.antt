-- A security given up by one key: no cell comes, and each that is still there keeps its size.
use Rattle.std.proofs.Common.{◌≡◌, ◌≢◌, ◌⊎◌, inl, inr, ℕ, zero, suc, ◌<◌, ◌≤◌, Option, Some, IsSome, List, [], length, refl, sym, ap, ◌∙◌, subst, arith}
use Rattle.std.specs.Prelude.{unwrap_or}
use Rattle.std.specs.Option.{option_map}
use Rattle.std.proofs.lemmas.Bool.{cases_eq}
use Rattle.reg_heap.specs.Heaps.{Heap}
use Rattle.reg_heap.specs.Kinds.{times}
use Rattle.reg_arena.specs.Arena.{Bins, heap_of}
use Rattle.reg_records.specs.RecordCells.{WritesPart, held}
use Rattle.reg_records.specs.KeySecurities.{KeySecurityRecord, security_at}
use Rattle.reg_shape.specs.Whole.{IsRing, count_at}
use Rattle.reg_shape.specs.Written.{IsWrittenSecurity}
use Rattle.reg_shape.proofs.Wholeness.ShapeRecords.{all-at, at-most-one, allocated-is}
use Rattle.reg_values.proofs.ValueFreeing.FrameChains.{times-same}
use Rattle.reg_index.specs.Subkeys.{KeepsCells}
use Rattle.reg_security.specs.Rings.{DescriptorCells, Finds, IsRelinked, IsRemoved}
use Rattle.reg_tree.specs.Internal.KeyNodeChanges.{SameSizes}
use Rattle.reg_tree.proofs.Invariant.CellReadings.{is_some_of, security-exists}

pub sizes-kept : (h i : Heap) → SameSizes h i → KeepsCells h i
sizes-kept h i a z some = (sym (a z).0 ∙ some, (a z).1)

module _ (old new : Bins) (s : ℕ) (t u : DescriptorCells) (bytes : KeySecurityRecord → List ℕ)
    (some : (n : ℕ) → count_at (heap_of old) s ≡ Some n → 1 ≤ n)
    (last : count_at (heap_of old) s ≡ Some 1 → (ring : List ℕ) → IsRing (heap_of old) ring → 0 < times s ring → Finds t (heap_of old) ring →
    (r : IsRemoved (heap_of old) (heap_of new) ring s) × Finds u (heap_of new) r.after)
    (written : (r : KeySecurityRecord) → security_at (heap_of old) s ≡ Some r → 1 < r.fields.count → WritesPart old new s 12 (bytes r))
    (beside : (z : ℕ) → z ≢ s → IsRelinked (heap_of old) (heap_of new) z)
    (ring : (ring : List ℕ) × IsRing (heap_of old) ring × (0 < times s ring) × Finds t (heap_of old) ring) where
  abbrev h : Heap
  h = heap_of old

  abbrev k : Heap
  k = heap_of new

  it : IsWrittenSecurity h s
  it = all-at (IsWrittenSecurity h) ring.0 s ring.1.written ring.2

  abbrev Kept : ℕ → Type 0
  Kept z = IsSome (k z) → IsSome (h z) × (length (held k z) ≡ length (held h z))

  counts : (n : ℕ) → it.security.fields.count ≡ n → count_at h s ≡ Some n
  counts n e = ap (option_map (λ (s : KeySecurityRecord). s.fields.count)) it.reads ∙ ap Some e

  kept-here : (n : ℕ) → it.security.fields.count ≡ n → Kept s
  kept-here zero e there = absurd (let a = some zero (counts zero e) in omega (arith, a))
  kept-here (suc zero) e there =
      let r = (last (counts 1 e) ring.0 ring.1 ring.2 ring.3).0 in
      let c = r.frame.count s in
      let m = r.members s in
      let t = times-same s in
      let o = at-most-one h s in
      let a = allocated-is k s there in
      absurd (omega (arith, c, m, t, o, a))
  kept-here (suc (suc n)) e there =
      let w = written it.security it.reads (omega (arith, e)) in
      (security-exists h s (is_some_of _ _ it.reads), ap (λ (o : Option (List ℕ)). length (unwrap_or o [])) w.here ∙ w.as_many)

  pub release-kept : KeepsCells h k
  release-kept z = by (cases_eq z s)
    where
      by : (z ≡ s) ⊎ (z ≢ s) → Kept z
      by (inl e) = subst Kept (sym e) (kept-here it.security.fields.count refl)
      by (inr n) = λ there. (let b = beside z n in (sym b.there ∙ there, b.long))
