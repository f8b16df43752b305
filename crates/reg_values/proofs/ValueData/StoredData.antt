-- Data that was written, read back.
use Rattle.std.proofs.Common.{◌≡◌, ℕ, zero, suc, ◌+◌, ◌-◌, ◌*◌, ◌<◌, ◌≤◌, ◌==◌, nat_le, min, cond, true, false, Option, Some, List, [], ◌∷◌, ◌++◌, length, take, drop, get_or, replicate}
use Rattle.std.proofs.Common.{refl, sym, ap, ◌∙◌, subst, arith, unwrap_or, length-append, length-drop}
use Rattle.std.proofs.lemmas.Bool.{le-leb, false≢true, leb-true}
use Rattle.std.proofs.lemmas.List.{append-nil}
use Rattle.std.proofs.Math.Seq.{take-append_seam}
use Rattle.byteorder.specs.Endian.{little_bytes}
use Rattle.reg_heap.specs.declared.limits.TheConstants.{DATA_LIMIT}
use Rattle.reg_heap.specs.ByteWords.{splice}
use Rattle.reg_heap.specs.Heaps.{Heap, Writes}
use Rattle.reg_heap.specs.Kinds.{Found, times}
use Rattle.reg_heap.specs.Kinds.Kind.{Data, BigHead, BigList}
use Rattle.reg_records.specs.declared.db.TheConstants.{SEGMENT_SIZE}
use Rattle.reg_shape.specs.Readings.{give}
use Rattle.reg_shape.proofs.Walking.ReadingParts.{guard-made}
use Rattle.reg_records.specs.RecordCells.{HasRoom, held}
use Rattle.reg_records.specs.OffsetRows.{offsets_at}
use Rattle.reg_records.specs.BigData.{named, if_any, segment_size, inline_size, segments_for, segments, db_of}
use Rattle.reg_shape.specs.Nodes.{pieces_at, data_by}
use Rattle.reg_values.specs.Internal.ValueListParts.{Fills, HoldsData}
use Rattle.reg_values.specs.ValueSizes.{data_sizes}
use Rattle.reg_values.proofs.ValueData.DataPieces.{le-false, piece-made, big-made, segments-owned}
use Rattle.reg_values.proofs.ValueData.SegmentReading.{segment-is}
use Rattle.reg_values.proofs.ValueFreeing.FrameChains.{times-same}
use Rattle.reg_values.proofs.ValueData.FilledCells.{fills-in, fills-then, fills-there, fills-room, fills-same, written-here, fills-written}
use Rattle.reg_values.proofs.ValueChanges.PlannedSizes.{few-sizes}

-- ---- a piece

take-all : (xs : List ℕ) (n : ℕ) → length xs ≤ n → take n xs ≡ xs
take-all [] zero l = refl
take-all [] (suc n) l = refl
take-all (x ∷ xs) zero l = absurd (omega arith)
take-all (x ∷ xs) (suc n) l = ap (λ ys. x ∷ ys) (take-all xs n (omega arith))

take-min : (xs : List ℕ) (n m : ℕ) → n ≡ min (length xs) m → take n xs ≡ take m xs
take-min [] zero m e = sym (take-all [] m (omega arith))
take-min [] (suc n) zero e = absurd (omega (arith, e))
take-min [] (suc n) (suc m) e = refl
take-min (x ∷ xs) zero zero e = refl
take-min (x ∷ xs) zero (suc m) e = absurd (omega (arith, e))
take-min (x ∷ xs) (suc n) zero e = absurd (omega (arith, e))
take-min (x ∷ xs) (suc n) (suc m) e = ap (λ ys. x ∷ ys) (take-min xs n m (omega (arith, e)))

pub piece-is : (bytes : List ℕ) (from to m : ℕ) → to ≡ min (length bytes) (from + m) → from ≤ length bytes → take (to - from) (drop from bytes) ≡ take m (drop from bytes)
piece-is bytes from to m e l = let n = length-drop from bytes in take-min (drop from bytes) (to - from) m (omega (arith, e, l, n))

-- ---- big data

module _ (h0 h1 h2 h3 : Heap) (head list : ℕ) (segs bytes : List ℕ) (small : length bytes ≤ DATA_LIMIT) (large : SEGMENT_SIZE < length bytes) (n : length segs ≡ segments_for (length bytes))
    (once : (z : ℕ) → times z (head ∷ list ∷ segs) ≤ 1)
    (head_room : HasRoom h0 head 8) (list_room : HasRoom h0 list (4 * length segs)) (rooms : (i : ℕ) → i < length segs →
    HasRoom h0 (get_or segs i 0) (length (take SEGMENT_SIZE (drop (SEGMENT_SIZE * i) bytes))))
    (f1 : Fills h0 h1 (head ∷ [])) where
  pub list-room : HasRoom h1 list (4 * length segs)
  list-room = fills-room h0 h1 (head ∷ []) list _ f1 list_room

  module _ (f2 : Fills h1 h2 (list ∷ [])) where
    pub seg-room : (i : ℕ) → i < length segs → HasRoom h2 (get_or segs i 0) (length (take SEGMENT_SIZE (drop (SEGMENT_SIZE * i) bytes)))
    seg-room i l = fills-room h1 h2 (list ∷ []) _ _ f2 (fills-room h0 h1 (head ∷ []) _ _ f1 (rooms i l))

    module _ (f3 : Fills h2 h3 segs) where
      pub big-fills : Fills h0 h3 (head ∷ list ∷ segs)
      big-fills =
          fills-then h0 h2 h3 (head ∷ list ∷ segs)
          (fills-then h0 h1 h2 (head ∷ list ∷ segs) (fills-in h0 h1 (head ∷ []) _ (λ z. omega arith) f1) (fills-in h1 h2 (list ∷ []) _ (λ z. omega arith) f2))
          (fills-in h2 h3 segs _ (λ z. omega arith) f3)

      module _ (count : ℕ) (count_is : count ≡ length segs) (db : db_of (held h1 head) ≡ Some (record { count = count; list = list })) (row : offsets_at (length segs) 0 (held h2 list) ≡ segs)
          (met : List Found) (reads : pieces_at (segments (length bytes) segs) h3 ≡ Some (bytes, met)) where
        head-kept : h3 head ≡ h1 head
        head-kept =
            let o = once head in
            let t = times-same head in
            fills-same h2 h3 segs head f3 (omega (arith, o, t)) ∙ fills-same h1 h2 (list ∷ []) head f2 (omega (arith, o, t))

        list-kept : h3 list ≡ h2 list
        list-kept = let o = once list in let t = times-same list in fills-same h2 h3 segs list f3 (omega (arith, o, t))

        db3 : db_of (held h3 head) ≡ Some (record { count = count; list = list })
        db3 = ap (λ (c : Option (List ℕ)). db_of (unwrap_or c [])) head-kept ∙ db

        row3 : offsets_at (segments_for (length bytes)) 0 (held h3 list) ≡ segs
        row3 = ap (λ n. offsets_at n 0 (held h3 list)) (sym n) ∙ (ap (λ (c : Option (List ℕ)). offsets_at (length segs) 0 (unwrap_or c [])) list-kept ∙ row)

        pub big-holds : HoldsData h3 (length bytes) head bytes (head ∷ list ∷ segs)
        big-holds =
            let size : ℕ = length bytes in
            let r = fills-room h0 h3 (head ∷ list ∷ segs) list _ big-fills list_room in
            let enough = r.enough in
            let big = big-made h3 size head (record { count = count; list = list }) bytes met
            (fills-there h0 h3 _ head big-fills head_room.exists) db3 (omega (arith, n, count_is)) r.exists
            (subst (λ n. 4 * n ≤ length (held h3 list)) n enough)
            (ap (λ row. pieces_at (segments size row) h3) row3 ∙ reads) in
            record {
              met = record { kind = BigHead; offset = head } ∷ record { kind = BigList; offset = list } ∷ met;
              reads = ap (λ b. data_by b (nat_le size segment_size) size head h3) (le-false 2147483648 size (omega arith)) ∙
                  (ap (λ b. data_by false b size head h3) (le-false size segment_size (subst (λ n. n < size) (sym segment-is) large)) ∙ big);
              owns = λ z. (let o = segments-owned h3 z size segs bytes met reads in omega (arith, o));
              written = λ kind flags. record {
                inline = λ e. absurd (let l = leb-true 2147483648 size e in omega (arith, l, small));
                far = λ e. omega (arith, large);
                big = λ e l. (record { count = count; list = list }, db3, count_is ∙ n);
              };
            }

-- ---- data in one cell

module _ (h k : Heap) (cell : ℕ) (bytes : List ℕ) (l : 4 < length bytes) (m : length bytes ≤ SEGMENT_SIZE) (room : HasRoom h cell (length bytes))
    (w : (offset : ℕ) → k offset ≡ cond (offset == cell) (Some (splice 0 bytes (held h cell))) (h offset)) (s : Writes h k (cell ∷ [])) where
  pub one-fills : Fills h k (cell ∷ [])
  one-fills = let e = room.enough in fills-written h k cell 0 bytes (omega (arith, e)) w s

  pub one-holds : HoldsData k (length bytes) cell bytes (cell ∷ [])
  unfolding splice
  one-holds =
      let size : ℕ = length bytes in
      let rest : List ℕ = drop (0 + length bytes) (held h cell) in
      let e = room.enough in
      let here : k cell ≡ Some (bytes ++ rest) = written-here h k cell 0 bytes (omega (arith, e)) w in
      by size refl (bytes ++ rest) here (take-append_seam bytes rest) (omega (arith, length-append bytes rest))
    where
      by : (size : ℕ) → size ≡ length bytes → (c : List ℕ) → k cell ≡ Some c → take (length bytes) c ≡ bytes → length bytes ≤ length c → HoldsData k (length bytes) cell bytes (cell ∷ [])
      by zero e c here t long = absurd (omega (arith, e, l))
      by (suc n) e c here t long =
          let piece = piece-made k (named Data (suc n) cell) [] c [] [] here (omega (arith, e, long)) refl in
          let bytes_are : take (suc n) c ++ [] ≡ bytes = append-nil (take (suc n) c) ∙ (ap (λ n. take n c) e ∙ t) in
          record {
            met = record { kind = Data; offset = cell } ∷ [];
            reads = ap (λ b. data_by b (nat_le (length bytes) segment_size) (length bytes) cell k) (le-false 2147483648 (length bytes) (omega (arith, m)))
                ∙ (ap (λ b. data_by false b (length bytes) cell k) (le-leb (length bytes) segment_size (subst (λ n. length bytes ≤ n) (sym segment-is) m))
                ∙ (ap (λ s. pieces_at (if_any Data s cell) k) (sym e) ∙ (piece ∙ ap (λ xs. Some (xs, record { kind = Data; offset = cell } ∷ [])) bytes_are)));
            owns = λ z. refl;
            written = λ kind flags. record {
              inline = λ e. absurd (let q = leb-true 2147483648 (length bytes) e in omega (arith, q, m));
              far = λ e. l;
              big = λ e q. absurd (let z = subst (λ n. n < length bytes) segment-is q in omega (arith, z, m));
            };
          }

-- ---- data in the record

front4 : (bytes : List ℕ) → length bytes ≤ 4 → take (length bytes) (get_or bytes 0 0 ∷ get_or bytes 1 0 ∷ get_or bytes 2 0 ∷ get_or bytes 3 0 ∷ []) ≡ bytes
front4 [] l = refl
front4 (a ∷ []) l = refl
front4 (a ∷ b ∷ []) l = refl
front4 (a ∷ b ∷ c ∷ []) l = refl
front4 (a ∷ b ∷ c ∷ d ∷ []) l = refl
front4 (a ∷ b ∷ c ∷ d ∷ e ∷ more) l = absurd (omega arith)

back4 : (bytes : List ℕ) → length bytes ≤ 4 → drop (length bytes) (get_or bytes 0 0 ∷ get_or bytes 1 0 ∷ get_or bytes 2 0 ∷ get_or bytes 3 0 ∷ []) ≡ replicate (4 - length bytes) 0
back4 [] l = refl
back4 (a ∷ []) l = refl
back4 (a ∷ b ∷ []) l = refl
back4 (a ∷ b ∷ c ∷ []) l = refl
back4 (a ∷ b ∷ c ∷ d ∷ []) l = refl
back4 (a ∷ b ∷ c ∷ d ∷ e ∷ more) l = absurd (omega arith)

pub none-of : (cells : List ℕ) → length cells ≡ 0 → cells ≡ []
none-of [] e = refl
none-of (x ∷ xs) e = absurd (omega arith)

pub near-holds : (h : Heap) (offset : ℕ) (bytes cells : List ℕ) → length bytes ≤ 4 → length cells ≡ length (data_sizes (length bytes)) →
    little_bytes 4 offset ≡ get_or bytes 0 0 ∷ get_or bytes 1 0 ∷ get_or bytes 2 0 ∷ get_or bytes 3 0 ∷ [] →
    HoldsData h (2147483648 + length bytes) offset bytes cells
near-holds h offset bytes cells l n e =
    let size : ℕ = 2147483648 + length bytes in
    let none : cells ≡ [] = none-of cells (n ∙ ap length (few-sizes (length bytes) l)) in
    let plain : inline_size size ≡ length bytes = omega arith in
    let guarded : data_by true (nat_le size segment_size) size offset h ≡ Some (take (inline_size size) (little_bytes 4 offset), []) =
    guard-made (nat_le (inline_size size) 4) (give (take (inline_size size) (little_bytes 4 offset))) h _
    (le-leb _ _ (omega (arith, plain, l))) refl in
    subst (HoldsData h size offset bytes) (sym none) (record {
      met = [];
      reads = ap (λ b. data_by b (nat_le size segment_size) size offset h) (le-leb 2147483648 size (omega arith)) ∙
          (guarded ∙ ap (λ xs. Some (xs, [])) (ap (λ n. take n (little_bytes 4 offset)) plain ∙ (ap (take (length bytes)) e ∙ front4 bytes l)));
      owns = λ z. refl;
      written = λ kind flags. record {
        inline = λ i. ap (λ n. drop n (little_bytes 4 offset)) plain ∙ (ap (drop (length bytes)) e ∙ (back4 bytes l ∙ ap (λ n. replicate (4 - n) 0) (sym plain)));
        far = λ i. absurd (false≢true (sym i ∙ le-leb 2147483648 size (omega arith)));
        big = λ i q. absurd (false≢true (sym i ∙ le-leb 2147483648 size (omega arith)));
      };
    })

pub few-segments : (size : ℕ) → size ≤ DATA_LIMIT → segments_for size ≤ 65
unfolding segment_size
few-segments size l = omega arith

pub all-segments : (size n : ℕ) → n ≡ segments_for size → (size ≤ SEGMENT_SIZE * n) × (SEGMENT_SIZE * n < size + SEGMENT_SIZE)
unfolding segment_size
all-segments size n e = (omega (arith, e), omega (arith, e))
