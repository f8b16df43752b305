-- Values written into cells that were carved for them.
use Rattle.std.proofs.Common.{◌≡◌, ◌≢◌, ℕ, zero, suc, ◌+◌, ◌-◌, ◌*◌, ◌<◌, ◌≤◌, ◌==◌, Bool, true, false, cond, Some, IsSome, List, [], ◌∷◌, ◌++◌, length, take, drop, get_or, slice_get, refl, sym, ap, ◌∙◌, subst}
use Rattle.std.proofs.Common.{arith, add-one, length-append, length-drop, length-take}
use Rattle.std.proofs.lemmas.List.{take-append-drop, drop-drop}
use Rattle.std.proofs.lemmas.Option.{none-some, same_Some}
use Rattle.std.proofs.lemmas.Bool.{eqb-true}
use Rattle.reg_heap.specs.Paths.{Member}
use Rattle.reg_heap.specs.ByteWords.{word}
use Rattle.reg_heap.specs.Heaps.{Heap, allocated}
use Rattle.reg_heap.specs.Kinds.{Found, owned, times}
use Rattle.reg_records.specs.RecordCells.{HasRoom, held}
use Rattle.reg_records.specs.OffsetRows.{offsets_at, offset_in}
use Rattle.reg_shape.specs.Nodes.{member_at}
use Rattle.reg_shape.specs.Written.{IsWrittenValue}
use Rattle.reg_shape.proofs.Walking.InnerReadings.{eaches, member-inner}
use Rattle.reg_values.specs.ValueSizes.{data_sizes}
use Rattle.reg_values.specs.NewValues.{one_value_sizes, each_value_sizes}
use Rattle.reg_values.specs.Internal.ValueListParts.{Fills, HaveRoom, HoldsValue, StandBehind}
use Rattle.reg_values.proofs.ValueData.FilledCells.{fills-none, fills-in, fills-then, fills-room, fills-same}
use Rattle.reg_values.proofs.ValueData.NewCellRoom.{room-tail, room-less}
use Rattle.reg_values.proofs.ValueFreeing.FrameChains.{times-append, owned-append, there-one}
use Rattle.reg_values.proofs.ValueListing.ValueListFrame.{AreRead, values-join, values-one, values-kept}
use Rattle.reg_values.proofs.ValueChanges.OffsetRemoved.{offsets-append, offsets-same}
use Rattle.reg_values.proofs.ValueChanges.ValuesPlanned.{take-more, take-all}

-- ---- room in parts

room-kept : (h k : Heap) (cs xs ss : List ℕ) → Fills h k cs → HaveRoom h xs ss → HaveRoom k xs ss
room-kept h k cs xs ss f r = record { as_many = r.as_many; once = r.once; room = λ i l. fills-room h k cs _ _ f (r.room i l) }

room-back : (h : Heap) (xs ys ss ts : List ℕ) → length xs ≡ length ss → HaveRoom h (xs ++ ys) (ss ++ ts) → HaveRoom h ys ts
room-back h [] ys [] ts n r = r
room-back h [] ys (s ∷ ss) ts n r = absurd (omega (arith, n))
room-back h (x ∷ xs) ys [] ts n r = absurd (omega (arith, n))
room-back h (x ∷ xs) ys (s ∷ ss) ts n r = room-back h xs ys ss ts (omega (arith, n)) (room-tail h x (xs ++ ys) s (ss ++ ts) r)

room-front : (h : Heap) (xs ys ss ts : List ℕ) → length xs ≡ length ss → HaveRoom h (xs ++ ys) (ss ++ ts) → HaveRoom h xs ss
room-front h xs ys ss ts n r = record {
  as_many = n;
  once = λ z. (let o = r.once z in omega (arith, o, times-append z xs ys));
  room = λ i l. rooms xs ss n (λ i l. r.room i (omega (arith, l, length-append xs ys))) i l;
}
  where
    rooms : (xs ss : List ℕ) → length xs ≡ length ss → ((i : ℕ) → i < length xs → HasRoom h (get_or (xs ++ ys) i 0) (get_or (ss ++ ts) i 0 - 4)) →
        (i : ℕ) → i < length xs → HasRoom h (get_or xs i 0) (get_or ss i 0 - 4)
    rooms [] ss n f i l = absurd (omega (arith, l))
    rooms (x ∷ xs) [] n f i l = absurd (omega (arith, n))
    rooms (x ∷ xs) (s ∷ ss) n f zero l = f 0 (omega arith)
    rooms (x ∷ xs) (s ∷ ss) n f (suc i) l = rooms xs ss (omega (arith, n)) (λ i l. f (suc i) (omega (arith, l))) i (omega (arith, l))

drop-first : (xs : List ℕ) (from : ℕ) → from < length xs → drop from xs ≡ get_or xs from 0 ∷ drop (from + 1) xs
drop-first xs from l = by xs from l ∙ ap (λ n. get_or xs from 0 ∷ drop n xs) (sym (add-one from))
  where
    by : (xs : List ℕ) (from : ℕ) → from < length xs → drop from xs ≡ get_or xs from 0 ∷ drop (suc from) xs
    by [] from l = absurd (omega (arith, l))
    by (x ∷ xs) zero l = refl
    by (x ∷ xs) (suc from) l = by xs from (omega (arith, l))

next-member : (members : List Member) (index : ℕ) (m : Member) → slice_get members index ≡ Some m → drop index members ≡ m ∷ drop (index + 1) members
next-member members index m e = by members index e ∙ ap (λ i. m ∷ drop i members) (sym (add-one index))
  where
    by : (members : List Member) (index : ℕ) → slice_get members index ≡ Some m → drop index members ≡ m ∷ drop (suc index) members
    by [] index e = absurd (none-some _ e)
    by (x ∷ members) zero e = ap (λ m. m ∷ members) (same_Some _ _ e)
    by (x ∷ members) (suc index) e = by members index e

-- one offset more at the end of a part of a row
row-longer : (c d : List ℕ) (first n cell : ℕ) → offset_in d (first + n) ≡ cell → ((j : ℕ) → j < n → offset_in d (first + j) ≡ offset_in c (first + j)) →
    offsets_at (n + 1) (4 * first) d ≡ offsets_at n (4 * first) c ++ cell ∷ []
unfolding offset_in offsets_at
row-longer c d first n cell e f =
    let at : (j : ℕ) → 4 * first + 4 * j ≡ 4 * (first + j) = λ j. omega arith in
    offsets-append n 1 (4 * first) d
    ∙ ap (λ w. offsets_at n (4 * first) d ++ w ∷ []) (ap (word d) (at n) ∙ e)
    ∙ ap (λ xs. xs ++ cell ∷ []) (offsets-same n (4 * first) (4 * first) c d (λ j l. ap (word d) (at j) ∙ (f j l ∙ ap (word c) (sym (at j)))))

-- the part before a place
row-before : (c d : List ℕ) (first : ℕ) → ((j : ℕ) → j < first → offset_in d j ≡ offset_in c j) → offsets_at first 0 d ≡ offsets_at first 0 c
unfolding offset_in
row-before c d first f =
    offsets-same first 0 0 c d (λ j l. let z : 0 + 4 * j ≡ 4 * j = omega arith in ap (word d) z ∙ (f j l ∙ ap (word c) (sym z)))

-- ---- so many values stand in their cells

pub record AreFilled (h0 h : Heap) (list first : ℕ) (cells : List ℕ) (members : List Member) (index from : ℕ) : Type 0 where
  pub fills : Fills h0 h (list ∷ cells)
  pub left : HaveRoom h (drop from cells) (each_value_sizes (drop index members))
  pub met : List Found
  pub values : AreRead h (offsets_at index (4 * first) (held h list)) (take index members) met
  pub front : offsets_at first 0 (held h list) ≡ offsets_at first 0 (held h0 list)
  pub behind : (n : ℕ) → first + index ≤ n → offset_in (held h list) n ≡ offset_in (held h0 list) n
  pub exact : (z : ℕ) → owned z met + times z (drop from cells) ≡ times z cells

pub none-filled : (h : Heap) (list first : ℕ) (cells : List ℕ) (members : List Member) → HaveRoom h cells (each_value_sizes members) →
    AreFilled h h list first cells members 0 0
unfolding offsets_at
none-filled h list first cells members r = record {
  fills = fills-none h (list ∷ cells);
  left = r;
  met = [];
  values = record { reads = refl; written = tt; inner = tt };
  front = refl;
  behind = λ n l. refl;
  exact = λ z. omega arith;
}

module _ (h0 h : Heap) (list first : ℕ) (cells : List ℕ) (members : List Member) (index from : ℕ) (a : AreFilled h0 h list first cells members index from)
    (m : Member) (here : slice_get members index ≡ Some m) (behind : ℕ) (behind_is : behind ≡ from + 1 + length (data_sizes (length m.bytes))) where
  abbrev cell : ℕ
  cell = get_or cells from 0

  abbrev data_of : List ℕ
  data_of = take (behind - (from + 1)) (drop (from + 1) cells)

  sizes-are : each_value_sizes (drop index members) ≡ one_value_sizes m ++ each_value_sizes (drop (index + 1) members)
  sizes-are = ap each_value_sizes (next-member members index m here)

  as-many : length (drop from cells) ≡ length (one_value_sizes m) + length (each_value_sizes (drop (index + 1) members))
  as-many = a.left.as_many ∙ (ap length sizes-are ∙ length-append (one_value_sizes m) (each_value_sizes (drop (index + 1) members)))

  pub within : behind ≤ length cells
  within = let n = as-many in omega (arith, n, behind_is, length-drop from cells)

  pub first-within : from < length cells
  first-within = let n = within in omega (arith, n, behind_is)

  parts : drop from cells ≡ (cell ∷ data_of) ++ drop behind cells
  parts =
      drop-first cells from first-within
      ∙ ap (λ xs. cell ∷ xs) (sym (take-append-drop (behind - (from + 1)) (drop (from + 1) cells))
      ∙ ap (λ xs. data_of ++ xs) (drop-drop (behind - (from + 1)) (from + 1) cells
      ∙ ap (λ n. drop n cells) (let e : from + 1 + (behind - (from + 1)) ≡ behind = omega (arith, behind_is) in e)))

  data-long : length (cell ∷ data_of) ≡ length (one_value_sizes m)
  data-long = let w = within in omega (arith, behind_is, w, length-take (behind - (from + 1)) (drop (from + 1) cells), length-drop (from + 1) cells)

  rooms : HaveRoom h ((cell ∷ data_of) ++ drop behind cells) (one_value_sizes m ++ each_value_sizes (drop (index + 1) members))
  rooms = subst (λ xs. HaveRoom h xs (one_value_sizes m ++ each_value_sizes (drop (index + 1) members))) parts
      (subst (HaveRoom h (drop from cells)) sizes-are a.left)

  pub one-rooms : HaveRoom h (cell ∷ data_of) (one_value_sizes m)
  one-rooms = room-front h (cell ∷ data_of) (drop behind cells) (one_value_sizes m) (each_value_sizes (drop (index + 1) members)) data-long rooms

  split : (z : ℕ) → times z (drop from cells) ≡ times z (cell ∷ data_of) + times z (drop behind cells)
  split z = ap (times z) parts ∙ times-append z (cell ∷ data_of) (drop behind cells)

  module _ (free : times list cells ≡ 0) (base : (z : ℕ) → times z (list ∷ cells) ≤ allocated h0 z) (room : HasRoom h0 list (4 * (first + length members))) where
    pub list-room : HasRoom h list (4 * (first + index) + 4)
    list-room =
        room-less h list (4 * (first + length members)) (4 * (first + index) + 4) (let l = there members index here in omega (arith, l))
        (fills-room h0 h (list ∷ cells) list _ a.fills room)
      where
        there : (ms : List Member) (i : ℕ) → slice_get ms i ≡ Some m → i < length ms
        there [] i e = absurd (none-some _ e)
        there (x ∷ ms) zero e = omega arith
        there (x ∷ ms) (suc i) e = let t = there ms i e in omega (arith, t)

    module _ (h2 h3 : Heap) (f : Fills h h2 (cell ∷ data_of)) (v : HoldsValue h2 cell m (cell ∷ data_of)) (w : Fills h2 h3 (list ∷ []))
        (put : offset_in (held h3 list) (first + index) ≡ cell) (others : (other : ℕ) → other ≢ first + index → offset_in (held h3 list) other ≡ offset_in (held h2 list) other) where
      all-there : (z : ℕ) → times z (list ∷ []) + owned z a.met + times z (cell ∷ data_of) + times z (drop behind cells) ≤ allocated h z
      all-there z = let b = base z in let c = a.fills.writes.count z in let e = a.exact z in let s = split z in omega (arith, b, c, e, s)

      all-there2 : (z : ℕ) → times z (list ∷ []) + owned z a.met + times z (cell ∷ data_of) + times z (drop behind cells) ≤ allocated h2 z
      all-there2 z = let b = all-there z in let c = f.writes.count z in omega (arith, b, c)

      apart : times list (cell ∷ data_of) ≡ 0
      apart = let e = a.exact list in let s = split list in omega (arith, e, s, free)

      row2 : (n at : ℕ) → offsets_at n at (held h2 list) ≡ offsets_at n at (held h list)
      row2 n at = ap (λ o. offsets_at n at (held (λ _. o) list)) (fills-same h h2 (cell ∷ data_of) list f apart)

      row3 : offsets_at (index + 1) (4 * first) (held h3 list) ≡ offsets_at index (4 * first) (held h list) ++ cell ∷ []
      row3 =
          row-longer (held h2 list) (held h3 list) first index cell put (λ j l. others (first + j) (λ e. absurd (omega (arith, l, e))))
          ∙ ap (λ xs. xs ++ cell ∷ []) (row2 index (4 * first))

      front3 : offsets_at first 0 (held h3 list) ≡ offsets_at first 0 (held h0 list)
      front3 =
          row-before (held h2 list) (held h3 list) first (λ j l. others j (λ e. absurd (omega (arith, l, e))))
          ∙ (row2 first 0 ∙ a.front)

      behind3 : (n : ℕ) → first + (index + 1) ≤ n → offset_in (held h3 list) n ≡ offset_in (held h0 list) n
      behind3 n l =
          others n (λ e. absurd (omega (arith, l, e)))
          ∙ (ap (λ o. offset_in (held (λ _. o) list) n) (fills-same h h2 (cell ∷ data_of) list f apart) ∙ a.behind n (omega (arith, l)))

      values3 : AreRead h3 (offsets_at index (4 * first) (held h list) ++ cell ∷ []) (take index members ++ m ∷ []) (a.met ++ v.met)
      values3 =
          let a2 = values-kept h h2 _ _ f.writes _ _ _ (λ z. let t = all-there z in omega (arith, t)) a.values in
          let a3 = values-kept h2 h3 _ _ w.writes _ _ _ (λ z. let t = all-there2 z in omega (arith, t)) a2 in
          let b2 = values-one h2 cell m v.met v.reads v.written (member-inner h2 cell (m, v.met) v.reads) in
          let b3 = values-kept h2 h3 _ _ w.writes _ _ _ (λ z. let t = all-there2 z in let o = v.owns z in omega (arith, t, o)) b2 in
          values-join h3 (offsets_at index (4 * first) (held h list)) (cell ∷ []) (take index members) (m ∷ []) a.met v.met a3 b3

      pub one-filled : AreFilled h0 h3 list first cells members (index + 1) behind
      one-filled = record {
        fills = fills-then h0 h h3 (list ∷ cells) a.fills (fills-then h h2 h3 (list ∷ cells)
            (fills-in h h2 (cell ∷ data_of) (list ∷ cells) (λ z. let e = a.exact z in let s = split z in omega (arith, e, s)) f)
            (fills-in h2 h3 (list ∷ []) (list ∷ cells) (λ z. omega arith) w));
        left = room-kept h2 h3 (list ∷ []) _ _ w (room-kept h h2 (cell ∷ data_of) _ _ f
            (room-back h (cell ∷ data_of) (drop behind cells) (one_value_sizes m) (each_value_sizes (drop (index + 1) members)) data-long rooms));
        met = a.met ++ v.met;
        values = subst (λ row. AreRead h3 row (take (index + 1) members) (a.met ++ v.met)) (sym row3)
            (subst (λ ms. AreRead h3 (offsets_at index (4 * first) (held h list) ++ cell ∷ []) ms (a.met ++ v.met)) (sym more) values3);
        front = front3;
        behind = behind3;
        exact = λ z. (let e = a.exact z in let s = split z in let o = v.owns z in omega (arith, e, s, o, owned-append z a.met v.met));
      }
        where
          more : take (index + 1) members ≡ take index members ++ m ∷ []
          more = ap (λ i. take i members) (add-one index) ∙ take-more members index m here

-- the list's cell and the others are there, each once
pub base-of : (h : Heap) (list n : ℕ) (cells ss : List ℕ) → HaveRoom h cells ss → HasRoom h list n → times list cells ≡ 0 → (z : ℕ) → times z (list ∷ cells) ≤ allocated h z
base-of h list n cells ss r l free z = by (list == z) refl
  where
    one-of : (xs : List ℕ) → ((i : ℕ) → i < length xs → IsSome (h (get_or xs i 0))) → (z : ℕ) → 0 < times z xs → IsSome (h z)
    one-of [] f z p = absurd (omega (arith, p))
    one-of (x ∷ xs) f z p = at (λ q. one-of xs (λ i l. f (suc i) (omega (arith, l))) z q) (x == z) refl p
      where
        at : (0 < times z xs → IsSome (h z)) → (b : Bool) → (x == z) ≡ b → 0 < cond b 1 0 + times z xs → IsSome (h z)
        at next true e p = subst (λ n. IsSome (h n)) (eqb-true x z e) (f 0 (omega arith))
        at next false e p = next (omega (arith, p))

    count-of : (k : ℕ) → times z cells ≡ k → times z cells ≤ allocated h z
    count-of zero e = omega (arith, e)
    count-of (suc k) e =
        let t = there-one h z (one-of cells (λ i l. (r.room i l).exists) z (omega (arith, e))) in
        let o = r.once z in
        omega (arith, t, o)

    by : (b : Bool) → (list == z) ≡ b → cond b 1 0 + times z cells ≤ allocated h z
    by true e =
        let q = eqb-true list z e in
        let t = there-one h z (subst (λ n. IsSome (h n)) q l.exists) in
        let f = subst (λ n. times n cells ≡ 0) q free in
        omega (arith, t, f)
    by false e = let c = count-of (times z cells) refl in omega (arith, c)

drop-all : (members : List Member) (index : ℕ) → index ≡ length members → drop index members ≡ []
drop-all [] zero e = refl
drop-all [] (suc index) e = absurd (omega (arith, e))
drop-all (m ∷ members) zero e = absurd (omega (arith, e))
drop-all (m ∷ members) (suc index) e = drop-all members index (omega (arith, e))

none-in : (xs : List ℕ) → length xs ≡ 0 → (z : ℕ) → times z xs ≡ 0
none-in [] e z = refl
none-in (x ∷ xs) e z = absurd (omega (arith, e))

pub all-filled : (h0 h : Heap) (list first : ℕ) (cells : List ℕ) (members : List Member) (index from : ℕ) →
    AreFilled h0 h list first cells members index from → index ≡ length members → StandBehind h list first members cells
all-filled h0 h list first cells members index from a all =
    let n = length members in
    let none = a.left.as_many ∙ ap (λ ms. length (each_value_sizes ms)) (drop-all members index all) in
    let values = subst (λ ms. AreRead h (offsets_at n (4 * first) (held h list)) ms a.met) (take-all members n (omega arith))
    (subst (λ i. AreRead h (offsets_at i (4 * first) (held h list)) (take i members) a.met) all a.values) in
    record {
      met = a.met;
      reads = values.reads;
      owns = λ z. (let e = a.exact z in let z0 = none-in (drop from cells) none z in omega (arith, e, z0));
      written = values.written;
    }

-- what stands behind the first of a list reads as values
pub stand-read : (h : Heap) (list first : ℕ) (members : List Member) (cells : List ℕ) (s : StandBehind h list first members cells) →
    AreRead h (offsets_at (length members) (4 * first) (held h list)) members s.met
stand-read h list first members cells s = record {
  reads = s.reads;
  written = s.written;
  inner = eaches (IsWrittenValue h) member_at h (λ offset y k c. member-inner h offset y c) (offsets_at (length members) (4 * first) (held h list)) s.written (members, s.met) s.reads;
}
