-- What the writers of a security's neighbours leave in its cell, and in all others.
use Rattle.std.proofs.Common.{◌≡◌, ◌≢◌, ◌⊎◌, inl, inr, ℕ, ◌+◌, ◌≤◌, true, List, [], length, drop, Option, None, IsSome, is_some, cond, ◌==◌, sym, ap, ◌∙◌, subst, arith}
use Rattle.std.specs.Prelude.{unwrap_or}
use Rattle.std.proofs.lemmas.Bool.{cases_eq}
use Rattle.std.proofs.lemmas.Bool.Decides.{nat_tests}
use Rattle.reg_arena.specs.Arena.{Bins, heap_of}
use Rattle.reg_heap.specs.Heaps.{Heap}
use Rattle.reg_records.specs.RecordCells.{held, HasRoom, WritesPart}
use Rattle.reg_records.specs.KeySecurities.{security_at}
use Rattle.reg_records.proofs.KeySecurityCodec.{security-room}
use Rattle.reg_records.proofs.SplicedNumbers.{drop-above}
use Rattle.reg_security.specs.Rings.{IsRelinked}

-- a cell that holds the same
pub relinked-same : (h k : Heap) (z : ℕ) → k z ≡ h z → IsRelinked h k z
relinked-same h k z e = record {
  there = ap (λ (c : Option (List ℕ)). is_some c) e;
  long = ap (λ (c : Option (List ℕ)). length (unwrap_or c [])) e;
  rest = ap (λ (c : Option (List ℕ)). drop 12 (unwrap_or c [])) e;
}

-- one step after another
pub relinked-then : (h i k : Heap) (z : ℕ) → IsRelinked h i z → IsRelinked i k z → IsRelinked h k z
relinked-then h i k z a b = record { there = b.there ∙ a.there; long = b.long ∙ a.long; rest = b.rest ∙ a.rest }

some-is : (o : Option (List ℕ)) → IsSome o → is_some o ≡ true
some-is o s = s

-- four bytes written within the first twelve of a security leave the rest, and all other cells
pub relinked-written : (old new : Bins) (cell at : ℕ) (piece : List ℕ) → IsSome (security_at (heap_of old) cell) → at + length piece ≤ 12 → WritesPart old new cell at piece →
    (z : ℕ) → IsRelinked (heap_of old) (heap_of new) z
relinked-written old new cell at piece there within w z = by (cases_eq z cell)
  where
    room : HasRoom (heap_of old) cell 20
    room = security-room (heap_of old) cell 20 (omega arith) there

    here : IsRelinked (heap_of old) (heap_of new) cell
    here = record {
      there = ap (λ (c : Option (List ℕ)). is_some c) w.here ∙ sym (some-is (heap_of old cell) room.exists);
      long = ap (λ (c : Option (List ℕ)). length (unwrap_or c [])) w.here ∙ w.as_many;
      rest =
          ap (λ (c : Option (List ℕ)). drop 12 (unwrap_or c [])) w.here
          ∙ drop-above at piece (held (heap_of old) cell) (let e = room.enough in omega (arith, e, within)) 12 within;
    }

    by : (z ≡ cell) ⊎ (z ≢ cell) → IsRelinked (heap_of old) (heap_of new) z
    by (inl e) = subst (λ z. IsRelinked (heap_of old) (heap_of new) z) (sym e) here
    by (inr n) = relinked-same (heap_of old) (heap_of new) z (w.others z n)

-- another cell was freed
pub relinked-freed : (h k : Heap) (cell z : ℕ) → k z ≡ cond (z == cell) None (h z) → z ≢ cell → IsRelinked h k z
relinked-freed h k cell z e n = relinked-same h k z (e ∙ kept)
  where
    kept : cond (z == cell) None (h z) ≡ h z
    kept = grind (arith, nat_tests, n)
