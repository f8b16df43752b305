-- A room whose front is filled, piece by piece.
use Rattle.std.proofs.Common.{◌≡◌, ◌≤◌, ◌+◌, ◌*◌, ℕ, List, ◌++◌, length, take, drop, refl, sym, ap, ◌∙◌, arith, length-append, length-take, length-drop}
use Rattle.std.proofs.lemmas.List.{take_at, length-take-le}
use Rattle.std.proofs.lemmas.Slice.{drop-append-drop}
use Rattle.reg_records.specs.declared.db.TheConstants.{SEGMENT_SIZE}
use Rattle.reg_values.proofs.ValueData.SegmentReading.{next-taken}

-- bytes over the front of a room
abbrev pub filled_by : List ℕ → List ℕ → List ℕ
filled_by front room = front ++ drop (length front) room

-- one piece more
filled-more : (front piece old room new : List ℕ) → room ≡ filled_by front old →
    new ≡ take (length front) room ++ piece ++ drop (length front + length piece) room → new ≡ filled_by (front ++ piece) old
filled-more front piece old room new e w =
    let first : take (length front) room ≡ front = ap (take (length front)) e ∙ take_at front (drop (length front) old) (length front) refl in
    let rest : drop (length front + length piece) room ≡ drop (length (front ++ piece)) old =
    ap (drop (length front + length piece)) e ∙
    (drop-append-drop (length front) old front (length front + length piece) (omega arith) refl ∙ ap (λ n. drop n old) (sym (length-append front piece))) in
    w ∙ (ap (λ xs. xs ++ piece ++ drop (length front + length piece) room) first ∙ ap (λ xs. front ++ piece ++ xs) rest)

module _ (all piece : List ℕ) (i : ℕ) (within : SEGMENT_SIZE * i ≤ length all) (is : piece ≡ take SEGMENT_SIZE (drop (SEGMENT_SIZE * i) all)) where
  -- the segment at an index has place in a room that has place for all
  pub piece-fits : (room : ℕ) → length all ≤ room → SEGMENT_SIZE * i + length piece ≤ room
  piece-fits room l =
      let long = ap length is in
      omega (arith, within, l, long, length-take SEGMENT_SIZE (drop (SEGMENT_SIZE * i) all), length-drop (SEGMENT_SIZE * i) all)

  -- the same of the next segments
  pub filled-next : (old room new : List ℕ) → room ≡ filled_by (take (SEGMENT_SIZE * i) all) old →
      new ≡ take (SEGMENT_SIZE * i) room ++ piece ++ drop (SEGMENT_SIZE * i + length piece) room →
      new ≡ filled_by (take (SEGMENT_SIZE * (i + 1)) all) old
  filled-next old room new e w =
      let front : List ℕ = take (SEGMENT_SIZE * i) all in
      let n = length-take-le (SEGMENT_SIZE * i) all within in
      let w2 : new ≡ take (length front) room ++ piece ++ drop (length front + length piece) room =
      w ∙ ap (λ n. take n room ++ piece ++ drop (n + length piece) room) (sym n) in
      filled-more front piece old room new e w2 ∙ ap (λ xs. filled_by xs old) (ap (λ xs. front ++ xs) is ∙ next-taken all i)
