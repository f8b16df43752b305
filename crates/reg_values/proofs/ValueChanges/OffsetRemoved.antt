-- An offset taken out of a row.
use Rattle.std.proofs.Common.{◌≡◌, ℕ, zero, suc, ◌+◌, ◌-◌, ◌*◌, ◌<◌, ◌≤◌, ◌==◌, cond, Some, IsSome, List, [], ◌∷◌, ◌++◌, length, take, drop, get_or, refl, sym, ap, ◌∙◌, subst, arith, rules}
use Rattle.std.proofs.Common.{length-take, length-drop}
use Rattle.std.proofs.lemmas.Bool.{eq-eqb}
use Rattle.std.proofs.lemmas.List.{places}
use Rattle.reg_heap.specs.declared.limits.TheConstants.{NONE}
use Rattle.reg_heap.specs.ByteWords.{word, splice}
use Rattle.reg_heap.specs.Heaps.{Heap, CellFrame, Writes, GivesUp}
use Rattle.reg_heap.specs.Kinds.{Found, owned, times}
use Rattle.reg_heap.specs.Kinds.Kind.{ValueList}
use Rattle.reg_records.specs.RecordCells.{held}
use Rattle.reg_records.specs.OffsetRows.{offsets_at}
use Rattle.reg_records.proofs.SplicedNumbers.{length-splice, number-below, word-same}
use Rattle.reg_values.specs.Internal.ValueListParts.{list_at, BecameList}
use Rattle.reg_values.proofs.ValueListing.ValueListOpening.{length-offsets}
use Rattle.reg_values.proofs.ValueListing.FoundValues.{is-some, held-is}
use Rattle.reg_values.proofs.ValueListing.ValueListFrame.{IsRow, list-open, list-made}

pub offsets-append : (i n at : ℕ) (c : List ℕ) → offsets_at (i + n) at c ≡ offsets_at i at c ++ offsets_at n (at + 4 * i) c
unfolding offsets_at
offsets-append zero n at c =
    let z : at ≡ at + 4 * 0 = omega arith in
    let m : 0 + n ≡ n = omega arith in
    ap (λ n. offsets_at n at c) m ∙ ap (λ a. offsets_at n a c) z
offsets-append (suc i) n at c =
    let m : suc i + n ≡ suc (i + n) = omega arith in
    let z : (at + 4) + 4 * i ≡ at + 4 * suc i = omega arith in
    ap (λ n. offsets_at n at c) m ∙ ap (λ xs. word c at ∷ xs) (offsets-append i n (at + 4) c ∙ ap (λ a. offsets_at i (at + 4) c ++ offsets_at n a c) z)

pub offsets-same : (n a b : ℕ) (c d : List ℕ) → ((j : ℕ) → j < n → word d (b + 4 * j) ≡ word c (a + 4 * j)) → offsets_at n b d ≡ offsets_at n a c
unfolding offsets_at
offsets-same zero a b c d f = refl
offsets-same (suc n) a b c d f =
    let z1 : b + 4 * 0 ≡ b = omega arith in
    let z2 : a + 4 * 0 ≡ a = omega arith in
    let one : word d b ≡ word c a = ap (word d) (sym z1) ∙ (f 0 (omega arith) ∙ ap (word c) z2) in
    ap (λ x. x ∷ offsets_at n (b + 4) d) one
    ∙ ap (λ xs. word c a ∷ xs) (offsets-same n (a + 4) (b + 4) c d (λ j l.
    let p : (b + 4) + 4 * j ≡ b + 4 * suc j = omega arith in
    let q : a + 4 * suc j ≡ (a + 4) + 4 * j = omega arith in
    ap (word d) p ∙ (f (suc j) (omega arith) ∙ ap (word c) q)))

pub take-offsets : (i n at : ℕ) (c : List ℕ) → take i (offsets_at (i + n) at c) ≡ offsets_at i at c
unfolding offsets_at
take-offsets zero n at c = refl
take-offsets (suc i) n at c =
    let m : suc i + n ≡ suc (i + n) = omega arith in
    ap (λ n. take (suc i) (offsets_at n at c)) m ∙ ap (λ xs. word c at ∷ xs) (take-offsets i n (at + 4) c)

pub drop-offsets : (i n at : ℕ) (c : List ℕ) → drop i (offsets_at (i + n) at c) ≡ offsets_at n (at + 4 * i) c
unfolding offsets_at
drop-offsets zero n at c =
    let z : at ≡ at + 4 * 0 = omega arith in
    let m : 0 + n ≡ n = omega arith in
    ap (λ n. offsets_at n at c) m ∙ ap (λ a. offsets_at n a c) z
drop-offsets (suc i) n at c =
    let m : suc i + n ≡ suc (i + n) = omega arith in
    let z : (at + 4) + 4 * i ≡ at + 4 * suc i = omega arith in
    ap (λ n. drop (suc i) (offsets_at n at c)) m ∙ (drop-offsets i n (at + 4) c ∙ ap (λ a. offsets_at n a c) z)

pub get_or-within : (at k : ℕ) (piece xs : List ℕ) → at + length piece ≤ length xs → k < length piece → get_or (splice at piece xs) (at + k) 0 ≡ get_or piece k 0
unfolding splice
get_or-within at k piece xs f l = search (rules, places)

pub get_or-take-drop : (a m k : ℕ) (c : List ℕ) → k < m → get_or (take m (drop a c)) k 0 ≡ get_or c (a + k) 0
get_or-take-drop a m k c l = search (rules, places)

below : (at : ℕ) (piece xs : List ℕ) → at + length piece ≤ length xs → (p : ℕ) → p + 4 ≤ at → word (splice at piece xs) p ≡ word xs p
unfolding word
below at piece xs f p h = number-below at piece xs f 4 p h

-- the later offsets of a row closed up
pub shifted : (c : List ℕ) (i n : ℕ) → 4 * (i + suc n) ≤ length c →
    offsets_at (i + n) 0 (splice (4 * i) (take (4 * n) (drop (4 * i + 4) c)) c) ≡ take i (offsets_at (i + suc n) 0 c) ++ drop (i + 1)
    (offsets_at (i + suc n) 0 c)
shifted c i n l =
    let piece : List ℕ = take (4 * n) (drop (4 * i + 4) c) in
    let long : length piece ≡ 4 * n = omega (arith, length-take (4 * n) (drop (4 * i + 4) c), length-drop (4 * i + 4) c) in
    let d : List ℕ = splice (4 * i) piece c in
    let front : offsets_at i 0 d ≡ offsets_at i 0 c = offsets-same i 0 0 c d (λ j h. below (4 * i) piece c (omega (arith, long)) (0 + 4 * j) (omega arith)) in
    let back : offsets_at n (0 + 4 * i) d ≡ offsets_at n (0 + 4 * (i + 1)) c = offsets-same n (0 + 4 * (i + 1)) (0 + 4 * i) c d (λ j h.
    word-same (0 + 4 * (i + 1) + 4 * j) (0 + 4 * i + 4 * j) c d (λ k b.
    let e : 0 + 4 * i + 4 * j + k ≡ 4 * i + (4 * j + k) = omega arith in
    let e2 : (4 * i + 4) + (4 * j + k) ≡ 0 + 4 * (i + 1) + 4 * j + k = omega arith in
    ap (λ n. get_or d n 0) e ∙ (get_or-within (4 * i) (4 * j + k) piece c (omega (arith, long)) (omega (arith, long)) ∙
    (get_or-take-drop (4 * i + 4) (4 * n) (4 * j + k) c (omega arith) ∙ ap (λ n. get_or c n 0) e2)))) in
    let m : i + suc n ≡ (i + 1) + n = omega arith in
    offsets-append i n 0 d ∙ ap (λ xs. xs ++ offsets_at n (0 + 4 * i) d) front ∙ ap (λ xs. offsets_at i 0 c ++ xs) back
    ∙ ap (λ xs. xs ++ offsets_at n (0 + 4 * (i + 1)) c) (sym (take-offsets i (suc n) 0 c))
    ∙ ap (λ xs. take i (offsets_at (i + suc n) 0 c) ++ xs) (sym (ap (λ m. drop (i + 1) (offsets_at m 0 c)) m ∙ drop-offsets (i + 1) n 0 c))

-- ---- the list

pub emptied : (h k : Heap) (offset index : ℕ) (row : List ℕ) (met : List Found) → index < 1 → list_at 1 offset h ≡ Some (row, met) →
    GivesUp h k (offset ∷ []) → BecameList h k (λ z. owned z met) 0 NONE (take index row ++ drop (index + 1) row)
emptied h k offset zero row met l e g =
    let r = list-open h 1 offset row met e (omega arith) in
    let n : length row ≡ 1 = ap length r.is ∙ length-offsets 1 0 (held h offset) in
    subst (λ xs. BecameList h k (λ z. owned z met) 0 NONE xs) (sym (none row n)) (record {
      cells = [];
      reads = refl;
      frame = subst (λ met. CellFrame h k (λ z. owned z met) (λ z. 0)) (sym r.met_is) g;
    })
  where
    none : (row : List ℕ) → length row ≡ 1 → take 0 row ++ drop 1 row ≡ []
    none [] n = refl
    none (x ∷ []) n = refl
    none (x ∷ y ∷ xs) n = absurd (omega arith)
emptied h k offset (suc i) row met l e g = absurd (omega arith)

module _ (h k : Heap) (count offset index : ℕ) (row : List ℕ) (met : List Found) (e : list_at count offset h ≡ Some (row, met)) (l : index < count) (more : 1 < count) where
  list : IsRow h count offset row met
  list = list-open h count offset row met e (omega arith)

  pub list-exists : IsSome (h offset)
  list-exists = list.here

  pub list-long : 4 * count ≤ length (held h offset)
  list-long = list.long

  pub closed-up : k offset ≡ Some (splice (4 * index) (take (4 * (count - 1 - index)) (drop (4 * index + 4) (held h offset))) (held h offset)) →
      Writes h k (offset ∷ []) → BecameList h k (λ z. owned z met) (count - 1) offset (take index row ++ drop (index + 1) row)
  closed-up w s =
      let c : List ℕ = held h offset in
      let n : ℕ = count - 1 - index in
      let piece : List ℕ = take (4 * n) (drop (4 * index + 4) c) in
      let long = list.long in
      let size : length piece ≡ 4 * n = omega (arith, length-take (4 * n) (drop (4 * index + 4) c), length-drop (4 * index + 4) c, long, l) in
      let now : held k offset ≡ splice (4 * index) piece c = held-is k offset _ w in
      let as_long : length (held k offset) ≡ length c = ap length now ∙ length-splice (4 * index) piece c (omega (arith, size, long, l)) in
      let made = list-made k (count - 1) offset (omega (arith, more)) (is-some _ _ w) (omega (arith, as_long, long)) in
      let all : count ≡ index + suc n = omega (arith, l) in
      let less : count - 1 ≡ index + n = omega (arith, l) in
      let row_is : offsets_at (count - 1) 0 (held k offset) ≡ take index row ++ drop (index + 1) row =
      ap (λ x. offsets_at (count - 1) 0 x) now ∙ (ap (λ m. offsets_at m 0 (splice (4 * index) piece c)) less ∙ (shifted c index n (omega (arith, long, all))
      ∙ (ap (λ m. take index (offsets_at m 0 c) ++ drop (index + 1) (offsets_at m 0 c)) (sym all) ∙ ap (λ xs. take index xs ++ drop (index + 1) xs) (sym list.is)))) in
      record {
        cells = record { kind = ValueList; offset = offset } ∷ [];
        reads = made ∙ ap (λ xs. Some (xs, record { kind = ValueList; offset = offset } ∷ [])) row_is;
        frame = subst (λ met. CellFrame h k (λ z. owned z met) (λ z. times z (offset ∷ []))) (sym list.met_is) s;
      }

pub written-here : (h k : Heap) (list_offset : ℕ) (content : List ℕ) → ((offset : ℕ) → k offset ≡ cond (offset == list_offset) (Some content) (h offset)) → k list_offset ≡ Some content
written-here h k list_offset content w = w list_offset ∙ ap (λ b. cond b (Some content) (h list_offset)) (eq-eqb list_offset list_offset refl)
