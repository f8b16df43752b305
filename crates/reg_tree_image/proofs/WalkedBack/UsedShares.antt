-- A security is met as often as keys name it.
use Rattle.std.proofs.Common.{◌≡◌, ℕ, ◌+◌, ◌==◌, Bool, true, false, cond, Option, Some, None, IsSome, List, [], ◌∷◌, map, unwrap_or, refl, arith}
use Rattle.std.specs.List.{AllByRecursion}
use Rattle.std.specs.Option.{option_map}
use Rattle.std.proofs.lemmas.Bool.{false≢true}
use Rattle.reg_heap.specs.Heaps.{Heap}
use Rattle.reg_heap.specs.Kinds.{Found, tally, times, shared}
use Rattle.reg_heap.specs.Kinds.Kind.{Key}
use Rattle.reg_records.specs.KeyNodes.{KeyRecord, key_at}
use Rattle.reg_records.specs.BigData.{plainly}
use Rattle.reg_shape.specs.Walk.{walk}
use Rattle.reg_written.specs.ReadKeys.{security_in}
use Rattle.reg_tree_image.specs.Internal.KeysNamed.{is_key, key_offsets}
use Rattle.reg_tree_image.proofs.WalkedBack.WalkCounts.{uses, uses_by, fair-walk}

-- the securities of the keys that were named, one for each
abbrev pub used_in : Heap → List Found → List ℕ
used_in heap found = map (security_in heap) (key_offsets found)

one-use : (o : Option KeyRecord) (z : ℕ) → IsSome o → uses_by o z ≡ cond (unwrap_or (option_map (λ (k : KeyRecord). k.fields.security) o) 0 == z) 1 0
one-use None z e = absurd (false≢true e)
one-use (Some k) z e = refl

used-tally : (heap : Heap) (z : ℕ) (found : List Found) → AllByRecursion (λ (o : ℕ). IsSome (key_at heap o)) (key_offsets found) →
    tally (uses heap z) found ≡ times z (used_in heap found)
used-tally heap z [] a = refl
used-tally heap z (f ∷ found) a = by (is_key f.kind) (used-tally heap z found) a
  where
    by : (b : Bool) → (AllByRecursion (λ (o : ℕ). IsSome (key_at heap o)) (key_offsets found) → tally (uses heap z) found ≡ times z (used_in heap found)) →
        AllByRecursion (λ (o : ℕ). IsSome (key_at heap o)) (cond b (f.offset ∷ key_offsets found) (key_offsets found)) →
        cond b (uses_by (key_at heap f.offset) z) 0 + tally (uses heap z) found ≡ times z (map (security_in heap) (cond b (f.offset ∷ key_offsets found) (key_offsets found)))
    by true rest a = let e = one-use (key_at heap f.offset) z a.0 in let r = rest a.1 in omega (arith, e, r)
    by false rest a = let r = rest a in omega (arith, r)

-- from a root on, a security is met as often as the keys that are met name it
pub used-shared : (k z root : ℕ) (heap : Heap) (found : List Found) → walk k heap (plainly Key root) ≡ Some found →
    AllByRecursion (λ (o : ℕ). IsSome (key_at heap o)) (key_offsets found) → shared z found ≡ times z (used_in heap found)
used-shared k z root heap found e a =
    let f = fair-walk k z heap (plainly Key root) found e in let t = used-tally heap z found a in omega (arith, f, t)
