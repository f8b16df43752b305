-- Cells that are written.
use Rattle.std.proofs.Common.{◌≡◌, ◌≢◌, ℕ, zero, suc, ◌+◌, ◌-◌, ◌*◌, ◌<◌, ◌≤◌, ◌==◌, min, cond, Option, Some, IsSome, List, [], ◌∷◌, ◌++◌, length, take, drop, get_or, refl, sym, ap, ◌∙◌}
use Rattle.std.proofs.Common.{subst, arith, ◌⊎◌, inl, inr, length-append, length-take, length-drop, unwrap_or}
use Rattle.std.proofs.lemmas.Bool.{eq-eqb, ne_eqb, cases_eq}
use Rattle.std.proofs.lemmas.List.{take-append-drop, drop-drop}
use Rattle.std.proofs.Math.Seq.{take-append_seam}
use Rattle.reg_heap.specs.ByteWords.{word, splice}
use Rattle.reg_heap.specs.Heaps.{Heap, Writes}
use Rattle.reg_heap.specs.Kinds.{Found, times}
use Rattle.reg_heap.specs.Kinds.Kind.{Segment}
use Rattle.reg_records.specs.declared.db.TheConstants.{SEGMENT_SIZE}
use Rattle.reg_arena.specs.Arena.{Bins, heap_of}
use Rattle.reg_records.specs.RecordCells.{HasRoom, WritesCell, held}
use Rattle.reg_records.specs.OffsetRows.{offsets_at, offset_in}
use Rattle.reg_records.specs.BigData.{named, segment_size, segments}
use Rattle.reg_shape.specs.Nodes.{pieces_at}
use Rattle.reg_records.proofs.SplicedNumbers.{length-splice}
use Rattle.reg_values.specs.Internal.ValueListParts.{Fills}
use Rattle.reg_values.proofs.ValueListing.FoundValues.{held-is}
use Rattle.reg_values.proofs.ValueData.DataPieces.{piece-made, times-suc}
use Rattle.reg_values.proofs.ValueData.SegmentReading.{segment-is}
use Rattle.reg_values.proofs.ValueFreeing.FrameChains.{there-one, one-there, writes-in}

-- ---- one cell

pub fills-one : (h k : Heap) (cell : ℕ) (content : List ℕ) → k cell ≡ Some content → length content ≡ length (held h cell) →
    ((offset : ℕ) → offset ≢ cell → k offset ≡ h offset) → Writes h k (cell ∷ []) → Fills h k (cell ∷ [])
fills-one h k cell content e n others w = record { writes = w; sizes = λ offset. by offset (cases_eq offset cell) }
  where
    by : (offset : ℕ) → (offset ≡ cell) ⊎ (offset ≡ cell → ⊥) → length (held k offset) ≡ length (held h offset)
    by offset (inl q) = ap (λ o. length (held k o)) q ∙ (ap length (held-is k cell content e) ∙ (n ∙ ap (λ o. length (held h o)) (sym q)))
    by offset (inr q) = ap (λ (c : Option (List ℕ)). length (unwrap_or c [])) (others offset q)

pub fills-cell : (old new : Bins) (cell : ℕ) (content : List ℕ) → WritesCell old new cell content → Fills (heap_of old) (heap_of new) (cell ∷ [])
fills-cell old new cell content w = fills-one (heap_of old) (heap_of new) cell content w.here w.as_many w.others w.writes

-- what a write of the arena does
module _ (h k : Heap) (cell at : ℕ) (bytes : List ℕ) (room : at + length bytes ≤ length (held h cell)) (w : (offset : ℕ) →
    k offset ≡ cond (offset == cell) (Some (splice at bytes (held h cell))) (h offset)) where
  pub written-here : k cell ≡ Some (splice at bytes (held h cell))
  written-here = w cell ∙ ap (λ b. cond b (Some (splice at bytes (held h cell))) (h cell)) (eq-eqb cell cell refl)

  pub written-others : (offset : ℕ) → offset ≢ cell → k offset ≡ h offset
  written-others offset n = w offset ∙ ap (λ b. cond b (Some (splice at bytes (held h cell))) (h offset)) (ne_eqb offset cell n)

  pub fills-written : Writes h k (cell ∷ []) → Fills h k (cell ∷ [])
  fills-written s = fills-one h k cell _ written-here (length-splice at bytes (held h cell) room) written-others s

-- ---- several

pub fills-none : (h : Heap) (cells : List ℕ) → Fills h h cells
fills-none h cells = record { writes = record { count = λ z. refl; same = λ z i j. refl }; sizes = λ z. refl }

pub fills-in : (h k : Heap) (xs ys : List ℕ) → ((z : ℕ) → times z xs ≤ times z ys) → Fills h k xs → Fills h k ys
fills-in h k xs ys l f = record { writes = writes-in h k xs (λ z. times z ys) f.writes l; sizes = f.sizes }

pub fills-then : (h k l : Heap) (cells : List ℕ) → Fills h k cells → Fills k l cells → Fills h l cells
fills-then h k l cells f g = record {
  writes = record { count = λ z. (let a = f.writes.count z in let b = g.writes.count z in omega (arith, a, b)); same = λ z i j. g.writes.same z i j ∙ f.writes.same z i j };
  sizes = λ z. g.sizes z ∙ f.sizes z;
}

pub fills-there : (h k : Heap) (cells : List ℕ) (cell : ℕ) → Fills h k cells → IsSome (h cell) → IsSome (k cell)
fills-there h k cells cell f s = let c = f.writes.count cell in let a = there-one h cell s in one-there (k cell) (omega (arith, c, a))

pub fills-room : (h k : Heap) (cells : List ℕ) (cell n : ℕ) → Fills h k cells → HasRoom h cell n → HasRoom k cell n
fills-room h k cells cell n f r = record { exists = fills-there h k cells cell f r.exists; enough = (let s = f.sizes cell in let e = r.enough in omega (arith, s, e)) }

pub fills-same : (h k : Heap) (cells : List ℕ) (cell : ℕ) → Fills h k cells → times cell cells ≡ 0 → k cell ≡ h cell
fills-same h k cells cell f n = f.writes.same cell n n

-- ---- a row

pub record RowFilled (h k : Heap) (list : ℕ) (segments : List ℕ) (i : ℕ) : Type 0 where
  pub fills : Fills h k (list ∷ [])
  pub done : (j : ℕ) → j < i → offset_in (held k list) j ≡ get_or segments j 0

pub row-none : (h : Heap) (list : ℕ) (segments : List ℕ) → RowFilled h h list segments 0
row-none h list segments = record { fills = fills-none h (list ∷ []); done = λ j l. absurd (omega arith) }

pub row-more : (h : Heap) (old new : Bins) (list : ℕ) (segments : List ℕ) (i offset : ℕ) (content : List ℕ) →
    RowFilled h (heap_of old) list segments i → WritesCell old new list content → offset ≡ get_or segments i 0
    → offset_in (held (heap_of new) list) i ≡ offset →
    ((other : ℕ) → other ≢ i → offset_in (held (heap_of new) list) other ≡ offset_in (held (heap_of old) list) other) →
    RowFilled h (heap_of new) list segments (i + 1)
row-more h old new list segments i offset content r w e here others = record {
  fills = fills-then h (heap_of old) (heap_of new) (list ∷ []) r.fills (fills-cell old new list content w);
  done = λ j l. by j l (cases_eq j i);
}
  where
    by : (j : ℕ) → j < i + 1 → (j ≡ i) ⊎ (j ≡ i → ⊥) → offset_in (held (heap_of new) list) j ≡ get_or segments j 0
    by j l (inl q) = ap (offset_in (held (heap_of new) list)) q ∙ (here ∙ (e ∙ ap (λ i. get_or segments i 0) (sym q)))
    by j l (inr q) = others j q ∙ r.done j (omega (arith, l, q))

offsets-are : (xs : List ℕ) (at : ℕ) (c : List ℕ) → ((j : ℕ) → j < length xs → word c (at + 4 * j) ≡ get_or xs j 0) → offsets_at (length xs) at c ≡ xs
unfolding offsets_at
offsets-are [] at c f = refl
offsets-are (x ∷ xs) at c f =
    let z : at + 4 * 0 ≡ at = omega arith in
    ap (λ y. y ∷ offsets_at (length xs) (at + 4) c) (ap (word c) (sym z) ∙ f 0 (omega arith))
    ∙ ap (λ ys. x ∷ ys) (offsets-are xs (at + 4) c (λ j l. let e : (at + 4) + 4 * j ≡ at + 4 * suc j = omega arith in ap (word c) e ∙ f (suc j) (omega arith)))

pub row-all : (h k : Heap) (list : ℕ) (segments : List ℕ) (i : ℕ) → length segments ≤ i → RowFilled h k list segments i → offsets_at (length segments) 0 (held k list) ≡ segments
unfolding offset_in
row-all h k list segments i l r =
    offsets-are segments 0 (held k list) (λ j m. let e : 0 + 4 * j ≡ 4 * j = omega arith in ap (word (held k list)) e ∙ r.done j (omega (arith, m, l)))

-- ---- pieces

-- a cell that begins with these bytes
pub record Begins (h : Heap) (o : ℕ) (x : List ℕ) : Type 0 where
  pub content : List ℕ
  pub here : h o ≡ Some content
  pub long : length x ≤ length content
  pub is : take (length x) content ≡ x

times-at : (os : List ℕ) (j : ℕ) → j < length os → 0 < times (get_or os j 0) os
times-at [] j l = absurd (omega arith)
times-at (o ∷ os) zero l = let e : ◌≡◌ {A = ℕ} (cond (o == o) 1 0) 1 = ap (λ b. cond b 1 0) (eq-eqb o o refl) in omega (arith, e)
times-at (o ∷ os) (suc j) l = let k = times-at os j (omega arith) in omega (arith, k)

head-apart : (o : ℕ) (os : List ℕ) (j : ℕ) → times o (o ∷ os) ≤ 1 → j < length os → get_or os j 0 ≢ o
head-apart o os j t l q =
    let e : ◌≡◌ {A = ℕ} (cond (o == o) 1 0) 1 = ap (λ b. cond b 1 0) (eq-eqb o o refl) in
    let k = times-at os j l in
    let m = ap (λ z. times z os) q in
    omega (arith, e, k, m, t)

apart-at : (os : List ℕ) → ((z : ℕ) → times z os ≤ 1) → (i j : ℕ) → i ≢ j → i < length os → j < length os → get_or os i 0 ≢ get_or os j 0
apart-at [] t i j n l m = absurd (omega arith)
apart-at (o ∷ os) t zero zero n l m = absurd (n refl)
apart-at (o ∷ os) t zero (suc j) n l m = λ q. head-apart o os j (t o) (omega arith) (sym q)
apart-at (o ∷ os) t (suc i) zero n l m = λ q. head-apart o os i (t o) (omega arith) q
apart-at (o ∷ os) t (suc i) (suc j) n l m = apart-at os (λ z. let k = t z in omega (arith, k)) i j (λ q. n (ap suc q)) (omega arith) (omega arith)

pub begins : (h k : Heap) (o : ℕ) (x : List ℕ) → length x ≤ length (held h o) → k o ≡ Some (splice 0 x (held h o)) → Begins k o x
unfolding splice
begins h k o x l e = record {
  content = x ++ drop (0 + length x) (held h o);
  here = e;
  long = omega (arith, length-append x (drop (0 + length x) (held h o)));
  is = take-append_seam x (drop (0 + length x) (held h o));
}

-- all pieces together
nothing : (xs : List ℕ) → length xs ≤ 0 → [] ≡ xs
nothing [] l = refl
nothing (x ∷ xs) l = absurd (omega arith)

pub pieces-made : (h : Heap) (os bytes : List ℕ) → length bytes ≤ segment_size * length os →
    ((j : ℕ) → j < length os → Begins h (get_or os j 0) (take segment_size (drop (segment_size * j) bytes))) →
    (met : List Found) × (pieces_at (segments (length bytes) os) h ≡ Some (bytes, met))
pieces-made h [] bytes l f =
    let z : segment_size * 0 ≡ 0 = omega arith in
    let n : [] ≡ bytes = nothing bytes (omega (arith, l, z)) in
    ([], ap (λ xs. Some (xs, [])) n)
pieces-made h (o ∷ os) bytes l f =
    let m : ℕ = segment_size in
    let x : List ℕ = take m bytes in
    let z0 : m * 0 ≡ 0 = omega arith in
    let q : take m (drop (m * 0) bytes) ≡ x = ap (λ n. take m (drop n bytes)) z0 in
    let p : Begins h o x = subst (Begins h o) q (f 0 (omega arith)) in
    let n : min m (length bytes) ≡ length x = omega (arith, length-take m bytes) in
    let left : length (drop m bytes) ≡ length bytes - m = length-drop m bytes in
    let many = times-suc m (length os) in
    let r = pieces-made h os (drop m bytes) (omega (arith, l, left, many)) (λ j jl.
    subst (Begins h (get_or os j 0)) (ap (take m) (ap (λ n. drop n bytes) (times-suc m j ∙ (omega arith)) ∙ sym (drop-drop (m * j) m bytes))) (f (suc j) (omega arith))) in
    let rest : pieces_at (segments (length bytes - m) os) h ≡ Some (drop m bytes, r.0) = ap (λ n. pieces_at (segments n os) h) (sym left) ∙ r.1 in
    let long = p.long in
    let made = piece-made h (named Segment (min m (length bytes)) o) (segments (length bytes - m) os) p.content (drop m bytes) r.0 p.here (omega (arith, n, long)) rest in (
      _,
      made ∙ ap (λ k. Some (take k p.content ++ drop m bytes, record { kind = Segment; offset = o } ∷ r.0)) n ∙
          ap (λ y. Some (y ++ drop m bytes, record { kind = Segment; offset = o } ∷ r.0)) p.is ∙
          ap (λ y. Some (y, record { kind = Segment; offset = o } ∷ r.0)) (take-append-drop m bytes),
    )

-- the first pieces are written
pub record PiecesFilled (h k : Heap) (os bytes : List ℕ) (i : ℕ) : Type 0 where
  pub done : (j : ℕ) → j < i → Begins k (get_or os j 0) (take SEGMENT_SIZE (drop (SEGMENT_SIZE * j) bytes))
  pub fills : Fills h k os

pub pieces-none : (h : Heap) (os bytes : List ℕ) → PiecesFilled h h os bytes 0
pieces-none h os bytes = record { done = λ j l. absurd (omega arith); fills = fills-none h os }

one-in : (os : List ℕ) (i : ℕ) → i < length os → (z : ℕ) → times z (get_or os i 0 ∷ []) ≤ times z os
one-in [] i l z = absurd (omega arith)
one-in (o ∷ os) zero l z = omega arith
one-in (o ∷ os) (suc i) l z = let k = one-in os i (omega arith) z in omega (arith, k)

pub pieces-more : (h k l : Heap) (os bytes : List ℕ) (i : ℕ) (x : List ℕ) → ((z : ℕ) → times z os ≤ 1) → i < length os →
    x ≡ take SEGMENT_SIZE (drop (SEGMENT_SIZE * i) bytes) → 0 + length x ≤ length (held k (get_or os i 0))
    → ((offset : ℕ) → l offset ≡ cond (offset == get_or os i 0) (Some (splice 0 x (held k (get_or os i 0)))) (k offset)) →
    Writes k l (get_or os i 0 ∷ []) → PiecesFilled h k os bytes i → PiecesFilled h l os bytes (i + 1)
pieces-more h k l os bytes i x t il q room w s p = record {
  done = λ j jl. by j jl (cases_eq j i);
  fills = fills-then h k l os p.fills (fills-in k l (get_or os i 0 ∷ []) os (one-in os i il) (fills-written k l (get_or os i 0) 0 x room w s));
}
  where
    by : (j : ℕ) → j < i + 1 → (j ≡ i) ⊎ (j ≡ i → ⊥) → Begins l (get_or os j 0) (take SEGMENT_SIZE (drop (SEGMENT_SIZE * j) bytes))
    by j jl (inl r) = subst (λ j. Begins l (get_or os j 0) (take SEGMENT_SIZE (drop (SEGMENT_SIZE * j) bytes))) (sym r)
        (subst (Begins l (get_or os i 0)) q (begins k l (get_or os i 0) x (omega (arith, room)) (written-here k l (get_or os i 0) 0 x room w)))
    by j jl (inr r) =
        let d = p.done j (omega (arith, jl, r)) in
        record { content = d.content; here = written-others k l (get_or os i 0) 0 x room w (get_or os j 0) (apart-at os t j i r (omega (arith, jl, il)) il) ∙ d.here; long = d.long; is = d.is }

pub pieces-all : (h k : Heap) (os bytes : List ℕ) (i : ℕ) → length os ≤ i → length bytes ≤ SEGMENT_SIZE * length os → PiecesFilled h k os bytes i →
    (met : List Found) × (pieces_at (segments (length bytes) os) k ≡ Some (bytes, met))
pieces-all h k os bytes i l a p =
    pieces-made k os bytes (subst (λ m. length bytes ≤ m * length os) (sym segment-is) a)
    (λ j jl. subst (λ m. Begins k (get_or os j 0) (take m (drop (m * j) bytes))) (sym segment-is) (p.done j (omega (arith, jl, l))))
