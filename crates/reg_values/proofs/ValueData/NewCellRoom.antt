-- New cells, and what there is room for in them.
use Rattle.std.proofs.Common.{◌≡◌, ℕ, zero, suc, ◌+◌, ◌-◌, ◌*◌, ◌<◌, ◌≤◌, min, List, [], ◌∷◌, length, take, drop, get_or, refl, sym, ap, ◌∙◌, subst, arith, length-take, length-drop}
use Rattle.std.proofs.Common.{◌⊎◌, inl, inr}
use Rattle.std.proofs.lemmas.Bool.{cases_order}
use Rattle.std.proofs.lemmas.List.{length-replicate}
use Rattle.reg_heap.specs.declared.limits.TheConstants.{DATA_LIMIT}
use Rattle.reg_heap.specs.Heaps.{Heap, AreNew}
use Rattle.reg_heap.specs.Kinds.{times}
use Rattle.reg_records.specs.declared.db.TheConstants.{SEGMENT_SIZE}
use Rattle.reg_records.specs.RecordCells.{HasRoom}
use Rattle.reg_records.specs.BigData.{segment_size, segments_for}
use Rattle.reg_values.specs.Internal.ValueListParts.{HaveRoom}
use Rattle.reg_arena.specs.NewCells.{cell_size}
use Rattle.reg_values.specs.ValueSizes.{segment_sizes, data_sizes}
use Rattle.reg_values.proofs.ValueListing.FoundValues.{is-some, held-is}
use Rattle.reg_values.proofs.ValueData.SegmentReading.{segment-is}
use Rattle.reg_values.proofs.ValueFreeing.FrameChains.{allocated-le}
use Rattle.reg_values.proofs.ValueChanges.PlannedSizes.{one-size, big-sizes}

pub segment-count : (n size : ℕ) → length (segment_sizes n size) ≡ n
segment-count zero size = refl
segment-count (suc n) size = ap suc (segment-count n (size - segment_size))

segment-at : (n size i : ℕ) → i < n → get_or (segment_sizes n size) i 0 ≡ cell_size (min segment_size (size - segment_size * i))
segment-at zero size i l = absurd (omega arith)
segment-at (suc n) size zero l = let z : size ≡ size - segment_size * 0 = omega arith in ap (λ s. cell_size (min segment_size s)) z
segment-at (suc n) size (suc i) l =
    segment-at n (size - segment_size) i (omega arith) ∙ ap (λ s. cell_size (min segment_size s)) (next segment_size size i)
  where
    next : (m size i : ℕ) → (size - m) - m * i ≡ size - m * suc i
    next m size i = let e : m * suc i ≡ m + m * i = grind arith in omega (arith, e)

-- more room than is asked for
pub room-less : (h : Heap) (cell a b : ℕ) → b ≤ a → HasRoom h cell a → HasRoom h cell b
room-less h cell a b l r = record { exists = r.exists; enough = (let e = r.enough in omega (arith, e, l)) }

pub list-one : (xs : List ℕ) → length xs ≡ 1 → xs ≡ get_or xs 0 0 ∷ []
list-one [] e = absurd (omega arith)
list-one (x ∷ []) e = refl
list-one (x ∷ y ∷ xs) e = absurd (omega arith)

take-length : (xs : List ℕ) (n : ℕ) → n ≡ length xs → take n xs ≡ xs
take-length [] zero e = refl
take-length [] (suc n) e = refl
take-length (x ∷ xs) zero e = absurd (omega arith)
take-length (x ∷ xs) (suc n) e = ap (λ ys. x ∷ ys) (take-length xs n (omega arith))

pub list-one-more : (xs : List ℕ) → 1 ≤ length xs → xs ≡ get_or xs 0 0 ∷ take (length xs - 1) (drop 1 xs)
list-one-more [] e = absurd (omega arith)
list-one-more (x ∷ xs) e = ap (λ zs. x ∷ zs) (sym (take-length xs (length (x ∷ xs) - 1) (omega arith)))

pub list-two : (xs : List ℕ) → 2 ≤ length xs → xs ≡ get_or xs 0 0 ∷ get_or xs 1 0 ∷ take (length xs - 2) (drop 2 xs)
list-two [] e = absurd (omega arith)
list-two (x ∷ []) e = absurd (omega arith)
list-two (x ∷ y ∷ xs) e = ap (λ zs. x ∷ y ∷ zs) (sym (take-length xs (length (x ∷ y ∷ xs) - 2) (omega arith)))

-- ---- the cells of data

module _ (h : Heap) (cells bytes : List ℕ) (small : length bytes ≤ DATA_LIMIT) (r : HaveRoom h cells (data_sizes (length bytes))) where
  module _ (l : 4 < length bytes) (m : length bytes ≤ SEGMENT_SIZE) where
    pub one-long : length cells ≡ 1
    one-long = r.as_many ∙ ap length (one-size (length bytes) l m)

    pub one-room : HasRoom h (get_or cells 0 0) (length bytes)
    one-room =
        let n = one-long in
        room-less h (get_or cells 0 0) _ (length bytes) (let s = ap (λ xs. get_or xs 0 0) (one-size (length bytes) l m) in omega (arith, s)) (r.room 0 (omega (arith, n)))

  module _ (large : SEGMENT_SIZE < length bytes) where
    abbrev segs : List ℕ
    segs = take (length cells - 2) (drop 2 cells)

    abbrev count : ℕ
    count = segments_for (length bytes)

    pub big-long : length cells ≡ suc (suc count)
    big-long = r.as_many ∙ (ap length (big-sizes (length bytes) large) ∙ ap (λ n. suc (suc n)) (segment-count count (length bytes)))

    pub big-cells : cells ≡ get_or cells 0 0 ∷ get_or cells 1 0 ∷ segs
    big-cells = let n = big-long in list-two cells (omega (arith, n))

    pub big-count : length segs ≡ count
    big-count = let n = big-long in omega (arith, n, length-take (length cells - 2) (drop 2 cells), length-drop 2 cells)

    pub big-once : (z : ℕ) → times z (get_or cells 0 0 ∷ get_or cells 1 0 ∷ segs) ≤ 1
    big-once z = subst (λ xs. times z xs ≤ 1) big-cells (r.once z)

    pub big-head : HasRoom h (get_or cells 0 0) 8
    big-head = let n = big-long in room-less h (get_or cells 0 0) _ 8 (let s = ap (λ xs. get_or xs 0 0) (big-sizes (length bytes) large) in omega (arith, s)) (r.room 0 (omega (arith, n)))

    pub big-list : HasRoom h (get_or cells 1 0) (4 * length segs)
    big-list =
        let n = big-long in
        let c = big-count in
        room-less h (get_or cells 1 0) _ (4 * length segs) (let s = ap (λ xs. get_or xs 1 0) (big-sizes (length bytes) large) in omega (arith, s, c)) (r.room 1 (omega (arith, n)))

    at-two : (xs : List ℕ) (a b : ℕ) (ys : List ℕ) (i : ℕ) → xs ≡ a ∷ b ∷ ys → get_or xs (suc (suc i)) 0 ≡ get_or ys i 0
    at-two xs a b ys i e = ap (λ xs. get_or xs (suc (suc i)) 0) e

    pub big-room : (i : ℕ) → i < length segs → HasRoom h (get_or segs i 0) (length (take SEGMENT_SIZE (drop (SEGMENT_SIZE * i) bytes)))
    big-room i l =
        let n = big-long in
        let c = big-count in
        let s = at-two (data_sizes (length bytes)) _ _ _ i (big-sizes (length bytes) large) ∙
        (segment-at count (length bytes) i (omega (arith, l, c)) ∙ ap (λ m. cell_size (min m (length bytes - m * i))) segment-is) in
        let o = at-two cells _ _ _ i big-cells in
        subst (λ o. HasRoom h o (length (take SEGMENT_SIZE (drop (SEGMENT_SIZE * i) bytes)))) o
        (room-less h (get_or cells (suc (suc i)) 0) _ _ (omega (arith, s, length-take SEGMENT_SIZE (drop (SEGMENT_SIZE * i) bytes), length-drop (SEGMENT_SIZE * i) bytes))
        (r.room (suc (suc i)) (omega (arith, l, c, n))))

pub some-long : (h : Heap) (cells bytes : List ℕ) → length bytes ≤ DATA_LIMIT → HaveRoom h cells (data_sizes (length bytes)) → 4 < length bytes → 0 < length cells
some-long h cells bytes small r l = by (cases_order (length bytes) SEGMENT_SIZE)
  where
    by : (length bytes ≡ SEGMENT_SIZE) ⊎ ((length bytes < SEGMENT_SIZE) ⊎ (SEGMENT_SIZE < length bytes)) → 0 < length cells
    by (inl e) = let n = one-long h cells bytes small r l (omega (arith, e)) in omega (arith, n)
    by (inr (inl e)) = let n = one-long h cells bytes small r l (omega (arith, e)) in omega (arith, n)
    by (inr (inr e)) = let n = big-long h cells bytes small r e in omega (arith, n)

-- ---- new cells

pub new-room : (h0 h1 : Heap) (offsets sizes : List ℕ) → AreNew h0 h1 offsets sizes → HaveRoom h1 offsets sizes
new-room h0 h1 offsets sizes a = record {
  as_many = a.as_many;
  once = λ z. (let c = a.come.count z in let l = allocated-le h1 z in omega (arith, c, l));
  room = λ i l. (let z = a.zeros i (let n = a.as_many in omega (arith, n, l)) in
      let s = ap length (held-is h1 (get_or offsets i 0) _ z) in
      record { exists = is-some _ _ z; enough = omega (arith, s, length-replicate {A = ℕ} (get_or sizes i 0 - 4) 0) });
}

pub room-tail : (h : Heap) (x : ℕ) (xs : List ℕ) (s : ℕ) (ss : List ℕ) → HaveRoom h (x ∷ xs) (s ∷ ss) → HaveRoom h xs ss
room-tail h x xs s ss r = record {
  as_many = (let n = r.as_many in omega (arith, n));
  once = λ z. (let o = r.once z in omega (arith, o));
  room = λ i l. r.room (suc i) (omega (arith, l));
}

pub room-head : (h : Heap) (x : ℕ) (xs : List ℕ) (s : ℕ) (ss : List ℕ) → HaveRoom h (x ∷ xs) (s ∷ ss) → HasRoom h x (s - 4)
room-head h x xs s ss r = r.room 0 (omega arith)
