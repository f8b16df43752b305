-- The segments of big data, read one behind the other.
use Rattle.std.proofs.Common.{◌≡◌, ℕ, zero, suc, ◌+◌, ◌-◌, ◌*◌, ◌<◌, ◌≤◌, ◌++◌, min, nat_le, true, false, Result, Ok, Err, List, [], ◌∷◌}
use Rattle.std.proofs.Common.{refl, sym, ap, ◌∙◌, subst, arith}
use Rattle.std.specs.Result.{IsErrAnd}
use Rattle.std.proofs.lemmas.Bool.Decides.{nat_tests}
use Rattle.reg_heap.specs.ByteWords.{word}
use Rattle.reg_heap.specs.Heaps.{Heap}
use Rattle.reg_heap.specs.Kinds.Kind.{Segment, BigHead, BigList}
use Rattle.reg_records.specs.OffsetRows.{offset_in, offsets_at}
use Rattle.reg_records.specs.declared.RecordFault.{RecordFault}
use Rattle.reg_records.specs.BigData.{BigData, named, segment_size, segments_for, segments, db_in, db_of}
use Rattle.reg_tree_image.specs.declared.LoadFault.{LoadFault}
use Rattle.reg_tree_image.specs.declared.LoadFault.TheVariants.{Record}
use Rattle.reg_tree_image.specs.declared.table.CellState.{CellState}
use Rattle.reg_tree_image.specs.WalkSteps.{Seen, Step, ◌>>=◌, ◌>>◌, onward, give, check, given, cell}
use Rattle.reg_tree_image.specs.LoadingWalk.{bytes_from, row_from, pieces_from, big_from}
use Rattle.reg_tree_image.specs.Internal.CellStates.{IsTable, unnamed}
use Rattle.reg_tree_image.specs.Internal.ReaderOutcomes.{IsDone, Follows}
use Rattle.reg_tree_image.specs.Internal.SegmentSteps.{appended}
use Rattle.reg_tree_image.proofs.Readers.ReaderSteps.{exit-follows}
use Rattle.reg_tree_image.proofs.Readers.ReachedSteps.{Reaches, reaches-same, reaches-more, reaches-then, reaches-exit}

-- a step, then one that only makes something of its result, then the next: or the next at once
regrouped : {A B C : Type 0} (s : Step A) (g : A → B) (k : B → Step C) (seen : Seen) →
    (s >>= (λ x. k (g x))) seen ≡ ((s >>= (λ x. give (g x))) >>= k) seen
regrouped s g k seen = by (s seen)
  where
    by : (r : Result (_ × Seen) LoadFault) → onward (λ x. k (g x)) r ≡ onward k (onward (λ x. give (g x)) r)
    by (Ok x) = refl
    by (Err fault) = refl

-- ---- one segment

module _ {X : Type 0} (heap : Heap) (path : List ℕ) (offset left size : ℕ) (size-is : size ≡ min segment_size left) (bytes : List ℕ)
    (first : X → List ℕ) (old mid : List CellState) where
  abbrev segment : ℕ → Step (List ℕ)
  segment n = bytes_from heap path (named Segment n offset)

  pub segment-exit : {Y : Type 0} (then : Y → List ℕ) (fault : LoadFault) (r : Result Y LoadFault) → IsErrAnd r (λ e. e ≡ fault) →
      Follows heap path first (segment size) old mid (Err fault) →
      Follows heap path then (appended bytes (segment (min segment_size left))) old mid r
  segment-exit then fault r i a =
      subst (λ n. Follows heap path then (appended bytes (segment n)) old mid r) size-is
      (exit-follows heap path first then (segment size) (λ piece. give (bytes ++ piece)) old mid mid fault r i a)

  pub segment-done : (x : X) (copied : List ℕ) → copied ≡ bytes ++ first x → Follows heap path first (segment size) old mid (Ok x) →
      (seen : Seen) → IsTable heap seen.found path old →
      IsDone heap path (appended bytes (segment (min segment_size left))) seen copied mid
  segment-done x copied e a seen t =
      let d = a seen t in
      subst (λ n. IsDone heap path (appended bytes (segment n)) seen copied mid) size-is
      (record {
        after = d.after;
        gives = ap (onward (λ piece. give (bytes ++ piece))) d.gives ∙ ap (λ all. Ok (all, d.after)) (sym e);
        table = d.table;
        told = d.told;
      })

-- ---- the loop

-- so many segments were copied, and the rest is left
pub record AreCopied (heap : Heap) (row : List ℕ) (count size index left : ℕ) (bytes : List ℕ) (old now : List CellState) : Type 0 where
  pub more : ℕ
  pub split : index + more ≡ count
  pub fewer : unnamed now ≤ unnamed old
  pub reaches : (path : List ℕ) → Reaches heap path (pieces_from heap path [] (segments size (offsets_at count 0 row)))
      (pieces_from heap path bytes (segments left (offsets_at more (4 * index) row))) old now

module _ (heap : Heap) (row : List ℕ) (count size : ℕ) (old : List CellState) where
  pub none-copied : AreCopied heap row count size 0 size [] old old
  none-copied = record {
    more = count;
    split = omega arith;
    fewer = omega arith;
    reaches = λ path. reaches-same heap path (pieces_from heap path [] (segments size (offsets_at count 0 row)))
        (pieces_from heap path [] (segments size (offsets_at count 0 row))) old (λ seen. refl);
  }

  abbrev whole : List ℕ → Step (List ℕ)
  whole path = pieces_from heap path [] (segments size (offsets_at count 0 row))

  -- a segment, behind the bytes so far
  abbrev one : List ℕ → ℕ → ℕ → List ℕ → Step (List ℕ)
  one path left offset bytes = appended bytes (bytes_from heap path (named Segment (min segment_size left) offset))

  -- what is left at an index
  abbrev rest : List ℕ → ℕ → ℕ → ℕ → List ℕ → Step (List ℕ)
  rest path more index left bytes = pieces_from heap path bytes (segments left (offsets_at more (4 * index) row))

  opened : (path : List ℕ) (k index left : ℕ) (bytes : List ℕ) (seen : Seen) →
      rest path (suc k) index left bytes seen ≡
      (one path left (offset_in row index) bytes >>= rest path k (index + 1) (left - segment_size)) seen
  unfolding offsets_at offset_in
  opened path k index left bytes seen =
      let e : 4 * index + 4 ≡ 4 * (index + 1) = omega arith in
      ap (λ at. pieces_from heap path bytes
      (named Segment (min segment_size left) (word row (4 * index)) ∷ segments (left - segment_size) (offsets_at k at row)) seen) e
      ∙ regrouped (bytes_from heap path (named Segment (min segment_size left) (word row (4 * index)))) (λ piece. bytes ++ piece)
      (rest path k (index + 1) (left - segment_size)) seen

  module _ {X : Type 0} (index left : ℕ) (bytes : List ℕ) (now new : List CellState) (some : index < count) where
    -- one more
    more-from : (more : ℕ) (copied : List ℕ) (x : X) → index + more ≡ count → unnamed new ≤ unnamed old →
        ((path : List ℕ) → Reaches heap path (whole path) (rest path more index left bytes) old now) →
        ((path : List ℕ) → Follows heap path (λ (_ : X). copied) (one path left (offset_in row index) bytes) now new (Ok x)) →
        AreCopied heap row count size (index + 1) (left - segment_size) copied old new
    more-from zero copied x e l a f = absurd (omega arith)
    more-from (suc k) copied x e l a f = record {
      more = k;
      split = omega arith;
      fewer = l;
      reaches = λ path. reaches-then heap path (λ (_ : X). copied) (whole path) (one path left (offset_in row index) bytes)
          (rest path k (index + 1) (left - segment_size)) old now new x
          (reaches-more heap path (whole path) (rest path (suc k) index left bytes)
          (one path left (offset_in row index) bytes >>= rest path k (index + 1) (left - segment_size)) old now
          (a path) (opened path k index left bytes)) (f path);
    }

    pub more-copied : (copied : List ℕ) (next offset : ℕ) (x : X) → AreCopied heap row count size index left bytes old now →
        offset ≡ offset_in row index → next ≡ left - segment_size →
        ((path : List ℕ) → Follows heap path (λ (_ : X). copied) (one path left offset bytes) now new (Ok x)) → unnamed new ≤ unnamed now →
        AreCopied heap row count size (index + 1) next copied old new
    more-copied copied next offset x c e n f l =
        let w = c.fewer in
        subst (λ n. AreCopied heap row count size (index + 1) n copied old new) (sym n)
        (more-from c.more copied x c.split (omega arith) c.reaches
        (λ path. subst (λ o. Follows heap path (λ (_ : X). copied) (one path left o bytes) now new (Ok x)) e (f path)))

    -- one that fails
    fails-from : {Y : Type 0} (then : Y → List ℕ) (first : X → List ℕ) (more : ℕ) (fault : LoadFault) (r : Result Y LoadFault) →
        IsErrAnd r (λ e. e ≡ fault) → index + more ≡ count → (path : List ℕ) →
        Reaches heap path (whole path) (rest path more index left bytes) old now →
        Follows heap path first (one path left (offset_in row index) bytes) now new (Err fault) →
        Follows heap path then (whole path) old new r
    fails-from then first zero fault r i e path a f = absurd (omega arith)
    fails-from then first (suc k) fault r i e path a f =
        reaches-exit heap path first then (whole path) (one path left (offset_in row index) bytes)
        (rest path k (index + 1) (left - segment_size)) old now new fault r i
        (reaches-more heap path (whole path) (rest path (suc k) index left bytes)
        (one path left (offset_in row index) bytes >>= rest path k (index + 1) (left - segment_size)) old now
        a (opened path k index left bytes)) f

    pub copy-exit : {Y : Type 0} (then : Y → List ℕ) (first : X → List ℕ) (offset : ℕ) (fault : LoadFault) (r : Result Y LoadFault) →
        IsErrAnd r (λ e. e ≡ fault) →
        AreCopied heap row count size index left bytes old now → offset ≡ offset_in row index → (path : List ℕ) →
        Follows heap path first (one path left offset bytes) now new (Err fault) →
        Follows heap path then (whole path) old new r
    copy-exit then first offset fault r i c e path f =
        fails-from then first c.more fault r i c.split path (c.reaches path)
        (subst (λ o. Follows heap path first (one path left o bytes) now new (Err fault)) e f)

  -- none is left
  pub all-copied : (index left : ℕ) (bytes : List ℕ) (now : List CellState) → AreCopied heap row count size index left bytes old now →
      index ≡ count → (path : List ℕ) (seen : Seen) →
      IsTable heap seen.found path old → IsDone heap path (whole path) seen bytes now
  unfolding offsets_at
  all-copied index left bytes now c e path seen t =
      let n : c.more ≡ 0 = let s = c.split in omega (arith, s, e) in
      let w = c.reaches path seen t in
      record { after = w.after; gives = w.gives ∙ ap (λ more. rest path more index left bytes w.after) n; table = w.table; told = w.told }

-- ---- the record

less : (a b : ℕ) → a ≤ b → nat_le a b ≡ true
less a b l = grind (arith, nat_tests)

above : (a b : ℕ) → b < a → nat_le a b ≡ false
above a b l = grind (arith, nat_tests)

module _ {X : Type 0} (heap : Heap) (path : List ℕ) (size offset : ℕ) (view : X → List ℕ) (old mid : List CellState) where
  abbrev from-row : ℕ → BigData → Step (List ℕ)
  from-row count big = row_from heap path BigList count big.list >>= (λ row. pieces_from heap path [] (segments size row))

  abbrev then : List ℕ → Step (List ℕ)
  then content = do
    big ← given Record (db_of content)
    check Record (nat_le (segments_for size) big.count)
    from-row (segments_for size) big

  pub big-exit : {Y : Type 0} (told : Y → List ℕ) (fault : LoadFault) (r : Result Y LoadFault) → IsErrAnd r (λ e. e ≡ fault) →
      Follows heap path view (cell heap path (λ _. BigHead) offset) old mid (Err fault) →
      Follows heap path told (big_from heap path size offset) old mid r
  big-exit told fault r i a = exit-follows heap path view told (cell heap path (λ _. BigHead) offset) then old mid mid fault r i a

  module _ (x : X) (a : Follows heap path view (cell heap path (λ _. BigHead) offset) old mid (Ok x)) where
    pub big-none : (fault : RecordFault) → db_in (view x) ≡ Err fault → (seen : Seen) → IsTable heap seen.found path old →
        big_from heap path size offset seen ≡ Err Record
    unfolding db_of
    big-none fault e seen t = let d = a seen t in ap (onward then) d.gives ∙ rw e refl

    pub big-few : (count : ℕ) (big : BigData) → count ≡ segments_for size → db_in (view x) ≡ Ok big → big.count < count → (seen : Seen) →
        IsTable heap seen.found path old →
        big_from heap path size offset seen ≡ Err Record
    unfolding db_of
    big-few count big n e l seen t =
        let d = a seen t in
        let b : nat_le (segments_for size) big.count ≡ false = ap (λ k. nat_le k big.count) (sym n) ∙ above count big.count l in
        ap (onward then) d.gives ∙ rw (e, b) refl

    pub big-row : (count : ℕ) (big : BigData) → count ≡ segments_for size → db_in (view x) ≡ Ok big → count ≤ big.count →
        Reaches heap path (big_from heap path size offset) (from-row count big) old mid
    unfolding db_of
    big-row count big n e l seen t =
        let d = a seen t in
        let b : nat_le (segments_for size) big.count ≡ true = ap (λ k. nat_le k big.count) (sym n) ∙ less count big.count l in
        record {
          after = d.after;
          gives = ap (onward then) d.gives ∙ (rw (e, b) refl ∙ ap (λ k. from-row k big d.after) (sym n));
          table = d.table;
          told = d.told;
        }
