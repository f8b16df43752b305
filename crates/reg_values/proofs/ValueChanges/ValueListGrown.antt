-- A list with one offset more.
use Rattle.std.proofs.Common.{◌≡◌, ◌≢◌, ℕ, ◌+◌, ◌*◌, ◌<◌, ◌≤◌, ◌==◌, cond, Some, IsSome, List, [], ◌∷◌, ◌++◌, length, take, drop, get_or, sym, ap, ◌∙◌, subst, arith}
use Rattle.std.proofs.Common.{length-take, length-drop}
use Rattle.std.proofs.lemmas.Option.{same_Some}
use Rattle.reg_heap.specs.ByteWords.{word, splice}
use Rattle.reg_heap.specs.Heaps.{Heap, CellFrame, Writes, GivesUp, allocated}
use Rattle.reg_heap.specs.Kinds.{Found, owned, times}
use Rattle.reg_heap.specs.Kinds.Kind.{ValueList}
use Rattle.reg_records.specs.RecordCells.{HasRoom, held}
use Rattle.reg_records.specs.OffsetRows.{offsets_at, offset_in}
use Rattle.reg_records.proofs.SplicedNumbers.{word-same}
use Rattle.reg_values.specs.Internal.ValueListParts.{list_at, BecameList, Fills}
use Rattle.reg_values.proofs.ValueListing.FoundValues.{held-is}
use Rattle.reg_values.proofs.ValueListing.ValueListFrame.{IsRow, list-open, list-made, list-kept}
use Rattle.reg_values.proofs.ValueChanges.OffsetRemoved.{offsets-append, offsets-same, get_or-within, get_or-take-drop}
use Rattle.reg_values.proofs.ValueFreeing.FrameChains.{one-there, times-same, frame-then, frame-with, writes-in}
use Rattle.reg_values.proofs.ValueData.FilledCells.{fills-then, fills-room, written-here, fills-written}

pub row-pushed : (c d : List ℕ) (n cell : ℕ) → offset_in d n ≡ cell → ((j : ℕ) → j < n → offset_in d j ≡ offset_in c j) → offsets_at (n + 1) 0 d ≡ offsets_at n 0 c ++ cell ∷ []
unfolding offset_in offsets_at
row-pushed c d n cell e f =
    let z : 0 + 4 * n ≡ 4 * n = omega arith in
    offsets-append n 1 0 d
    ∙ ap (λ w. offsets_at n 0 d ++ w ∷ []) (ap (word d) z ∙ e)
    ∙ ap (λ xs. xs ++ cell ∷ []) (offsets-same n 0 0 c d (λ j l. let y : 0 + 4 * j ≡ 4 * j = omega arith in ap (word d) y ∙ (f j l ∙ ap (word c) (sym y))))

-- ---- in place

module _ (h k : Heap) (count offset cell : ℕ) (fills : Fills h k (offset ∷ [])) (room : HasRoom h offset (4 * count + 4)) (here : offset_in (held k offset) count ≡ cell)
    (others : (other : ℕ) → other ≢ count → offset_in (held k offset) other ≡ offset_in (held h offset) other) where
  room-k : HasRoom k offset (4 * count + 4)
  room-k = fills-room h k (offset ∷ []) offset _ fills room

  pub pushed-reads : list_at (count + 1) offset k ≡ Some (offsets_at count 0 (held h offset) ++ cell ∷ [], record { kind = ValueList; offset = offset } ∷ [])
  pushed-reads =
      let r = room-k in
      let enough = r.enough in
      list-made k (count + 1) offset (omega arith) r.exists (omega (arith, enough))
      ∙ ap (λ xs. Some (xs, record { kind = ValueList; offset = offset } ∷ [])) (row-pushed (held h offset) (held k offset) count cell here (λ j l. others j (λ e. let q = e in omega (arith, q, l))))

  pub grown : (row : List ℕ) (met : List Found) → 0 < count → list_at count offset h ≡ Some (row, met) → BecameList h k (λ z. owned z met) (count + 1) offset (row ++ cell ∷ [])
  grown row met p e =
      let r = list-open h count offset row met e p in
      record {
        cells = record { kind = ValueList; offset = offset } ∷ [];
        reads = pushed-reads ∙ ap (λ xs. Some (xs ++ cell ∷ [], record { kind = ValueList; offset = offset } ∷ [])) (sym r.is);
        frame = subst (λ met. CellFrame h k (λ z. owned z met) (λ z. times z (offset ∷ []))) (sym r.met_is) fills.writes;
      }

  -- the first offset of all
  pub started : (old : ℕ) (row : List ℕ) (met : List Found) → count ≡ 0 → list_at 0 old h ≡ Some (row, met) →
      BecameList h k (λ z. owned z met + times z (offset ∷ [])) (count + 1) offset (row ++ cell ∷ [])
  unfolding offsets_at
  started old row met z e =
      let p : ◌≡◌ {A = List ℕ × List Found} ([], []) (row, met) = same_Some _ _ e in
      let none : offsets_at count 0 (held h offset) ≡ row = ap (λ n. offsets_at n 0 (held h offset)) z ∙ ap (λ (p : List ℕ × List Found). p.0) p in
      let m : met ≡ [] = ap (λ (p : List ℕ × List Found). p.1) (sym p) in
      record {
        cells = record { kind = ValueList; offset = offset } ∷ [];
        reads = pushed-reads ∙ ap (λ xs. Some (xs ++ cell ∷ [], record { kind = ValueList; offset = offset } ∷ [])) none;
        frame = subst (λ met. CellFrame h k (λ z. owned z met + times z (offset ∷ [])) (λ z. times z (offset ∷ []))) (sym m)
            (frame-with h k _ _ (λ z. 0) (λ z. 0 + times z (offset ∷ [])) (λ z. times z (offset ∷ [])) fills.writes (λ z. omega arith) (λ z. omega arith));
      }

-- ---- in a new cell

pub words : (c d : List ℕ) (j : ℕ) → offset_in d j ≡ offset_in c j → word d (0 + 4 * j) ≡ word c (0 + 4 * j)
unfolding offset_in
words c d j e = let z : 0 + 4 * j ≡ 4 * j = omega arith in ap (word d) z ∙ (e ∙ ap (word c) (sym z))

-- the offsets that were copied
pub copied : (c d : List ℕ) (n : ℕ) → 4 * n ≤ length c → 4 * n ≤ length d → (j : ℕ) → j < n → offset_in (splice 0 (take (4 * n) (drop 0 c)) d) j ≡ offset_in c j
unfolding offset_in
copied c d n lc ld j l =
    let piece : List ℕ = take (4 * n) (drop 0 c) in
    let long : length piece ≡ 4 * n = omega (arith, length-take (4 * n) (drop 0 c), length-drop 0 c, lc) in
    word-same (4 * j) (4 * j) c (splice 0 piece d) (λ k b.
    let e : 4 * j + k ≡ 0 + (4 * j + k) = omega arith in
    ap (λ n. get_or (splice 0 piece d) n 0) e ∙ (get_or-within 0 (4 * j + k) piece d (omega (arith, long, ld)) (omega (arith, long, l, b)) ∙
    (get_or-take-drop 0 (4 * n) (4 * j + k) c (omega (arith, l, b)) ∙ ap (λ n. get_or c n 0) (sym e))))

module _ (h0 h1 h2 h3 : Heap) (count old offset cell : ℕ) (some : 0 < count) (row : List ℕ) (met : List Found)
    (e : list_at count old h0 ≡ Some (row, met)) (once : (z : ℕ) → owned z met + times z (offset ∷ []) ≤ allocated h0 z)
    (room : HasRoom h0 offset (4 * count + 4)) (f1 : Fills h0 h1 (offset ∷ [])) (c1 : h1 offset ≡ Some (splice 0 (take (4 * count) (drop 0 (held h0 old))) (held h0 offset)))
    (f2 : Fills h1 h2 (offset ∷ [])) (here : offset_in (held h2 offset) count ≡ cell) (others : (other : ℕ) → other ≢ count → offset_in (held h2 offset) other ≡ offset_in (held h1 offset) other)
    (g : GivesUp h2 h3 (old ∷ [])) where
  list : IsRow h0 count old row met
  list = list-open h0 count old row met e some

  met-times : (z : ℕ) → owned z met ≡ times z (old ∷ [])
  met-times z = ap (owned z) list.met_is

  writes02 : Writes h0 h2 (offset ∷ [])
  writes02 = (fills-then h0 h1 h2 (offset ∷ []) f1 f2).writes

  row1 : offsets_at count 0 (held h1 offset) ≡ row
  row1 =
      let long = list.long in
      let enough = room.enough in
      offsets-same count 0 0 (held h0 old) (held h1 offset) (λ j l. same j l (copied (held h0 old) (held h0 offset) count long (omega (arith, enough)) j l)) ∙ sym list.is
    where
      same : (j : ℕ) → j < count → offset_in (splice 0 (take (4 * count) (drop 0 (held h0 old))) (held h0 offset)) j ≡ offset_in (held h0 old) j →
          word (held h1 offset) (0 + 4 * j) ≡ word (held h0 old) (0 + 4 * j)
      same j l q = words (held h0 old) (held h1 offset) j (ap (λ c. offset_in c j) (held-is h1 offset _ c1) ∙ q)

  pub moved : BecameList h0 h3 (λ z. owned z met + times z (offset ∷ [])) (count + 1) offset (row ++ cell ∷ [])
  moved =
      let reads2 = pushed-reads h1 h2 count offset cell f2 (fills-room h0 h1 (offset ∷ []) offset _ f1 room) here others ∙
      ap (λ xs. Some (xs ++ cell ∷ [], record { kind = ValueList; offset = offset } ∷ [])) row1 in
      record {
        cells = record { kind = ValueList; offset = offset } ∷ [];
        reads = list-kept (count + 1) offset h2 h3 _ _ _ _ g reads2 (λ z. let o = once z in let m = met-times z in let c = writes02.count z in omega (arith, o, m, c));
        frame = frame-then h0 h2 h3 (λ z. owned z met + times z (offset ∷ [])) (λ z. owned z met + times z (offset ∷ [])) (λ z. times z (offset ∷ []))
            (writes-in h0 h2 (offset ∷ []) (λ z. owned z met + times z (offset ∷ [])) writes02 (λ z. omega arith))
            (frame-with h2 h3 _ _ (λ z. times z (offset ∷ [])) (λ z. owned z met + times z (offset ∷ [])) (λ z. times z (offset ∷ [])) g
            (λ z. let m = met-times z in omega (arith, m)) (λ z. omega arith));
      }

pub old-gone : (h0 h1 h2 : Heap) (count old offset : ℕ) → 0 < count → (row : List ℕ) (met : List Found) → list_at count old h0 ≡ Some (row, met) →
    ((z : ℕ) → owned z met + times z (offset ∷ []) ≤ allocated h0 z) → Fills h0 h1 (offset ∷ []) → Fills h1 h2 (offset ∷ []) → IsSome (h2 old)
old-gone h0 h1 h2 count old offset some row met e once f1 f2 =
    let m = ap (owned old) (list-open h0 count old row met e some).met_is in
    let o = once old in
    let t = times-same old in
    let c = (fills-then h0 h1 h2 (offset ∷ []) f1 f2).writes.count old in
    one-there (h2 old) (omega (arith, o, m, t, c))

-- what the copy does
module _ (h k : Heap) (count old list_offset : ℕ) (some : 0 < count) (row : List ℕ) (met : List Found) (e : list_at count old h ≡ Some (row, met)) (room : HasRoom h list_offset (4 * count + 4))
    (w : (offset : ℕ) → k offset ≡ cond (offset == list_offset) (Some (splice 0 (take (4 * count) (drop 0 (held h old))) (held h list_offset))) (h offset)) where
  copy-room : 0 + length (take (4 * count) (drop 0 (held h old))) ≤ length (held h list_offset)
  copy-room = let r = room.enough in omega (arith, r, length-take (4 * count) (drop 0 (held h old)))

  pub copy-fills : Writes h k (list_offset ∷ []) → Fills h k (list_offset ∷ [])
  copy-fills s = fills-written h k list_offset 0 (take (4 * count) (drop 0 (held h old))) copy-room w s

  pub copy-here : k list_offset ≡ Some (splice 0 (take (4 * count) (drop 0 (held h old))) (held h list_offset))
  copy-here = written-here h k list_offset 0 (take (4 * count) (drop 0 (held h old))) copy-room w
