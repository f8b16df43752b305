-- The offsets of a new list's cell that no value uses yet.
use Rattle.std.proofs.Common.{◌≡◌, ◌≢◌, ℕ, zero, suc, ◌+◌, ◌*◌, ◌<◌, ◌≤◌, ◌-◌, Some, IsSome, List, [], ◌∷◌, length, take, drop, get_or, replicate}
use Rattle.std.proofs.Common.{refl, sym, ap, subst, ◌∙◌, arith, length-take, length-drop, Option, unwrap_or}
use Rattle.reg_heap.specs.ByteWords.{word, splice}
use Rattle.reg_heap.specs.Heaps.{Heap, GivesUp, AreNew, allocated}
use Rattle.reg_heap.specs.Kinds.{Found, owned, times}
use Rattle.reg_records.specs.RecordCells.{held}
use Rattle.reg_records.specs.OffsetRows.{offset_in}
use Rattle.reg_records.proofs.SplicedNumbers.{word-same, get_or-above}
use Rattle.reg_values.specs.ValueLists.{UnusedAreZero}
use Rattle.reg_values.specs.Internal.ValueListParts.{list_at, Fills}
use Rattle.reg_values.proofs.ValueFreeing.FrameChains.{allocated-le, kept-apart, there-one, times-same}
use Rattle.reg_values.proofs.ValueListing.FoundValues.{held-is}
use Rattle.reg_values.proofs.ValueListing.ValueListFrame.{list-open}
use Rattle.reg_values.proofs.ValueData.FilledCells.{fills-then}
use Rattle.reg_values.proofs.ValueChanges.ValueAdded.{two-spare}

get_or-zeros : (size index : ℕ) → ◌≡◌ {A = ℕ} (get_or (replicate {A = ℕ} size 0) index 0) 0
get_or-zeros zero index = refl
get_or-zeros (suc n) zero = refl
get_or-zeros (suc n) (suc i) = get_or-zeros n i

word-zeros : (size at : ℕ) → word (replicate size 0) at ≡ 0
unfolding word
word-zeros size at = word-same 0 at [] (replicate size 0) (λ k l. get_or-zeros size (at + k))

-- a cell that was just carved holds none
pub zeros-unused : (h : Heap) (z size : ℕ) → h z ≡ Some (replicate size 0) → UnusedAreZero h 0 z
unfolding offset_in
zeros-unused h z size e index l = ap (λ c. offset_in c index) (held-is h z _ e) ∙ word-zeros size (4 * index)

-- one that holds the same as before has the same
pub kept-unused : (h k : Heap) (count z : ℕ) → k z ≡ h z → UnusedAreZero h count z → UnusedAreZero k count z
kept-unused h k count z e u index l = ap (λ (o : Option (List ℕ)). offset_in (unwrap_or o []) index) e ∙ u index l

-- the next offset was put
pub put-unused : (h k : Heap) (count z : ℕ) → ((other : ℕ) → other ≢ count → offset_in (held k z) other ≡ offset_in (held h z) other) →
    UnusedAreZero h count z → UnusedAreZero k (count + 1) z
put-unused h k count z others u index l = others index (λ e. omega (arith, l, e)) ∙ u index (omega (arith, l))

-- so many offsets were copied to its start
pub copied-unused : (h k : Heap) (count old z : ℕ) → k z ≡ Some (splice 0 (take (4 * count) (drop 0 (held h old))) (held h z)) →
    4 * count ≤ length (held h old) → 4 * count ≤ length (held h z) → UnusedAreZero h 0 z → UnusedAreZero k count z
unfolding offset_in
copied-unused h k count old z e long fits u index l =
    let piece : List ℕ = take (4 * count) (drop 0 (held h old)) in
    let size : length piece ≡ 4 * count = omega (arith, length-take (4 * count) (drop 0 (held h old)), length-drop 0 (held h old), long) in
    ap (λ c. word c (4 * index)) (held-is k z _ e)
    ∙ (word-same (4 * index) (4 * index) (held h z) (splice 0 piece (held h z))
    (λ b s. get_or-above 0 piece (held h z) (omega (arith, size, fits)) (4 * index + b) (omega (arith, size, l)))
    ∙ u index (omega arith))

-- a second of the cells that were just carved, of which the first and those behind it were written
pub fresh-unused : (h0 h1 h2 : Heap) (all : List ℕ) (s l : ℕ) (ds : List ℕ) → AreNew h0 h1 all (s ∷ l ∷ ds) →
    Fills h1 h2 (get_or all 0 0 ∷ take (length all - 2) (drop 2 all)) → UnusedAreZero h2 0 (get_or all 1 0)
fresh-unused h0 h1 h2 all s l ds a f =
    let z = get_or all 1 0 in
    let here = a.zeros 1 (omega arith) in
    let one = there-one h1 z (subst IsSome (sym here) refl) in
    let apart = two-spare h0 h1 all s l ds a z in
    let same = times-same z in
    kept-unused h1 h2 0 z (kept-apart h1 h2 _ _ f.writes z (omega (arith, one)) (omega (arith, apart, same))) (zeros-unused h1 z (l - 4) here)

-- the first of the cells that were just carved
pub new-list-unused : (h0 h1 : Heap) (all : List ℕ) (l : ℕ) (ss : List ℕ) → AreNew h0 h1 all (l ∷ ss) → UnusedAreZero h1 0 (get_or all 0 0)
new-list-unused h0 h1 all l ss a = zeros-unused h1 (get_or all 0 0) (l - 4) (a.zeros 0 (omega arith))

-- the list's old cell was given up
module _ (h0 h1 h2 h3 : Heap) (count old offset : ℕ) (some : 0 < count) (row : List ℕ) (met : List Found) (e : list_at count old h0 ≡ Some (row, met))
    (once : (z : ℕ) → owned z met + times z (offset ∷ []) ≤ allocated h0 z) (f1 : Fills h0 h1 (offset ∷ [])) (f2 : Fills h1 h2 (offset ∷ [])) (g : GivesUp h2 h3 (old ∷ [])) where
  pub moved-unused : (n : ℕ) → UnusedAreZero h2 n offset → UnusedAreZero h3 n offset
  moved-unused n u =
      let m = ap (owned offset) (list-open h0 count old row met e some).met_is in
      let o = once offset in
      let t = times-same offset in
      let b = allocated-le h0 offset in
      let c = (fills-then h0 h1 h2 (offset ∷ []) f1 f2).writes.count offset in
      kept-unused h2 h3 n offset (kept-apart h2 h3 _ _ g offset (omega (arith, o, t, c)) (omega (arith, m, o, t, b))) u
