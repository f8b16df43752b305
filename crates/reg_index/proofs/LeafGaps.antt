-- A gap opened in a hash leaf, in its cell or on the way to another, and filled; and an entry taken out.
use Rattle.std.proofs.Common.{◌≡◌, ◌≢◌, ℕ, suc, ◌+◌, ◌-◌, ◌*◌, ◌^◌, ◌<◌, ◌≤◌, ◌==◌, cond, Option, Some, None, IsSome, List, [], ◌∷◌, ◌++◌, length, take, drop, refl, sym, ap, ◌∙◌, subst, arith}
use Rattle.std.specs.Prelude.{unwrap_or}
use Rattle.std.proofs.lemmas.Bool.{eq-eqb, ne_eqb}
use Rattle.byteorder.specs.Endian.{little_bytes, little_number}
use Rattle.byteorder.specs.Numbers.{little_number-reads_back}
use Rattle.reg_heap.specs.declared.limits.TheConstants.{LEAF_LIMIT}
use Rattle.reg_heap.specs.Heaps.{Heap}
use Rattle.reg_heap.specs.ByteWords.{half, word, splice}
use Rattle.reg_records.specs.declared.lists.ListForm.TheVariants.{HashLeaf}
use Rattle.reg_records.specs.RecordCells.{held, HasRoom}
use Rattle.reg_records.specs.SubkeyLists.{Entry, form_of, hinted_entries, entry_bytes, head_bytes}
use Rattle.reg_records.proofs.SplicedNumbers.{length-splice, drop-within}
use Rattle.reg_index.specs.Internal.HashLeaves.{IsLeaf, HasGap}
use Rattle.reg_index.specs.Subkeys.{with_one, without}
use Rattle.reg_index.proofs.LeafEntries.{hinted-append, take-hinted, drop-hinted, length-part, copied, kept, kept-behind}
use Rattle.reg_index.proofs.LeafParts.{Leaf, leaf-open, leaf-made}

-- ---- one cell changed

pub changed-here : (old new : Heap) (cell : ℕ) (now : Option (List ℕ)) → ((offset : ℕ) → new offset ≡ cond (offset == cell) now (old offset)) → new cell ≡ now
changed-here old new cell now is = is cell ∙ ap (λ b. cond b now (old cell)) (eq-eqb cell cell refl)

pub changed-others : (old new : Heap) (cell : ℕ) (now : Option (List ℕ)) → ((offset : ℕ) → new offset ≡ cond (offset == cell) now (old offset)) →
    (offset : ℕ) → offset ≢ cell → new offset ≡ old offset
changed-others old new cell now is offset n = is offset ∙ ap (λ b. cond b now (old offset)) (ne_eqb offset cell n)

held-of : (heap : Heap) (cell : ℕ) (content : List ℕ) → heap cell ≡ Some content → held heap cell ≡ content
held-of heap cell content here = ap (λ (o : Option (List ℕ)). unwrap_or o []) here

-- ---- the entries before an index, and from it on

module _ (heap : Heap) (cell index m : ℕ) (entries : List Entry) (leaf : Leaf heap cell entries) (number : length entries ≡ index + m) where
  whole : entries ≡ hinted_entries (index + m) 4 (held heap cell)
  whole = sym leaf.says.body ∙ ap (λ n. hinted_entries n 4 (held heap cell)) number

  front-is : hinted_entries index 4 (held heap cell) ≡ take index entries
  front-is = sym (ap (take index) whole ∙ take-hinted index m 4 (held heap cell))

  back-is : hinted_entries m (4 + 8 * index) (held heap cell) ≡ drop index entries
  back-is = sym (ap (drop index) whole ∙ drop-hinted index m 4 (held heap cell))

-- the leaf's cell holds all its entries
pub leaf-long : (heap : Heap) (cell count : ℕ) → ((entries : List Entry) × IsLeaf heap cell entries × (length entries ≡ count)) → 4 + 8 * count ≤ length (held heap cell)
leaf-long heap cell count s = omega (arith, (leaf-open heap cell s.0 s.1).says.long, s.2)

-- ---- a gap in the leaf's own cell

pub shifted-gap : (old new : Heap) (cell count index : ℕ) → index ≤ count → 4 + 8 * (count + 1) ≤ length (held old cell)
    → ((offset : ℕ) → new offset ≡ cond (offset == cell) (Some (splice (12 + 8 * index) (take (8 * (count - index)) (drop (4 + 8 * index) (held old cell))) (held old cell))) (old offset))
    → (entries : List Entry) → IsLeaf old cell entries → length entries ≡ count → HasGap new cell index entries
shifted-gap old new cell count index within room written entries is number =
    let leaf = leaf-open old cell entries is in
    let c : List ℕ = held old cell in
    let m : ℕ = count - index in
    let piece : List ℕ = take (8 * m) (drop (4 + 8 * index) c) in
    let long : length piece ≡ 8 * m = length-part (4 + 8 * index) (8 * m) c (omega arith) in
    let fits : 12 + 8 * index + length piece ≤ length c = omega (arith, long) in
    let here : new cell ≡ Some (splice (12 + 8 * index) piece c) = changed-here old new cell (Some (splice (12 + 8 * index) piece c)) written in
    let now : held new cell ≡ splice (12 + 8 * index) piece c = held-of new cell (splice (12 + 8 * index) piece c) here in
    let same : length (held new cell) ≡ length c = ap length now ∙ length-splice (12 + 8 * index) piece c fits in
    let parted : length entries ≡ index + m = omega (arith, number) in
    let left : length entries - index ≡ m = omega (arith, number) in
    record {
      exists = subst IsSome (sym here) refl;
      room = omega (arith, same, number, room);
      before = ap (hinted_entries index 4) now ∙ (kept (12 + 8 * index) piece c fits index 4 (omega arith) ∙ front-is old cell index m entries leaf parted);
      behind = ap (λ n. hinted_entries n (12 + 8 * index) (held new cell)) left
          ∙ (ap (hinted_entries m (12 + 8 * index)) now
          ∙ (copied (4 + 8 * index) (12 + 8 * index) (8 * m) c c (omega arith) (omega arith) m (omega arith)
          ∙ back-is old cell index m entries leaf parted));
    }

-- ---- a gap in another cell

-- a part written over leaves the cell as long as it was
pub spliced-long : (old new : Heap) (cell at : ℕ) (piece : List ℕ) → at + length piece ≤ length (held old cell) →
    ((offset : ℕ) → new offset ≡ cond (offset == cell) (Some (splice at piece (held old cell))) (old offset)) →
    length (held new cell) ≡ length (held old cell)
spliced-long old new cell at piece fits is =
    ap length (held-of new cell (splice at piece (held old cell)) (changed-here old new cell (Some (splice at piece (held old cell))) is)) ∙ length-splice at piece (held old cell) fits

pub spliced-room : (old new : Heap) (cell at size : ℕ) (piece : List ℕ) → at + length piece ≤ length (held old cell) →
    size ≤ length (held old cell) → ((offset : ℕ) → new offset ≡ cond (offset == cell) (Some (splice at piece (held old cell))) (old offset)) →
    HasRoom new cell size
spliced-room old new cell at size piece fits enough is = record {
  exists = subst IsSome (sym (changed-here old new cell (Some (splice at piece (held old cell))) is)) refl;
  enough = omega (arith, spliced-long old new cell at piece fits is, enough);
}

module _ (h0 h1 : Heap) (cell fresh count index : ℕ) (apart : fresh ≢ cell)
    (one : (offset : ℕ) → h1 offset ≡ cond (offset == fresh) (Some (splice 4 (take (8 * index) (drop 4 (held h0 cell))) (held h0 fresh))) (h0 offset)) where
  first-cell : h1 cell ≡ h0 cell
  first-cell = changed-others h0 h1 fresh (Some (splice 4 (take (8 * index) (drop 4 (held h0 cell))) (held h0 fresh))) one cell (λ e. apart (sym e))

  pub source-long : ((entries : List Entry) × IsLeaf h0 cell entries × (length entries ≡ count)) → 4 + 8 * count ≤ length (held h1 cell)
  source-long s = subst (λ (o : Option (List ℕ)). 4 + 8 * count ≤ length (unwrap_or o [])) (sym first-cell) (leaf-long h0 cell count s)

module _ (h0 h1 h2 h3 : Heap) (cell fresh count index : ℕ) (within : index ≤ count) (room : 4 + 8 * (count + 1) ≤ length (held h0 fresh)) (apart : fresh ≢ cell)
    (one : (offset : ℕ) → h1 offset ≡ cond (offset == fresh) (Some (splice 4 (take (8 * index) (drop 4 (held h0 cell))) (held h0 fresh))) (h0 offset))
    (two : (offset : ℕ) → h2 offset ≡ cond (offset == fresh) (Some (splice (12 + 8 * index) (take (8 * (count - index)) (drop (4 + 8 * index) (held h1 cell))) (held h1 fresh))) (h1 offset))
    (three : (offset : ℕ) → h3 offset ≡ cond (offset == cell) None (h2 offset)) where
  pub moved-gap : (entries : List Entry) → IsLeaf h0 cell entries → length entries ≡ count → HasGap h3 fresh index entries
  moved-gap entries is number =
      let leaf = leaf-open h0 cell entries is in
      let c : List ℕ = held h0 cell in
      let d : List ℕ = held h0 fresh in
      let m : ℕ = count - index in
      let big = leaf.says.long in
      let front : List ℕ = take (8 * index) (drop 4 c) in
      let front_long : length front ≡ 8 * index = length-part 4 (8 * index) c (omega (arith, big, number)) in
      let front_fits : 4 + length front ≤ length d = omega (arith, front_long) in
      let d1 : List ℕ = splice 4 front d in
      let d1_long : length d1 ≡ length d = length-splice 4 front d front_fits in
      let here1 : held h1 fresh ≡ d1 = held-of h1 fresh d1 (changed-here h0 h1 fresh (Some d1) one) in
      let source : held h1 cell ≡ c = ap (λ (o : Option (List ℕ)). unwrap_or o []) (first-cell h0 h1 cell fresh count index apart one) in
      let back : List ℕ = take (8 * m) (drop (4 + 8 * index) c) in
      let back_long : length back ≡ 8 * m = length-part (4 + 8 * index) (8 * m) c (omega (arith, big, number)) in
      let back_fits : 12 + 8 * index + length back ≤ length d1 = omega (arith, back_long, d1_long) in
      let d2 : List ℕ = splice (12 + 8 * index) back d1 in
      let d2_long : length d2 ≡ length d1 = length-splice (12 + 8 * index) back d1 back_fits in
      let here2 : h2 fresh ≡ Some d2 =
      changed-here h1 h2 fresh (Some (splice (12 + 8 * index) (take (8 * m) (drop (4 + 8 * index) (held h1 cell))) (held h1 fresh))) two
      ∙ (λ i. Some (splice (12 + 8 * index) (take (8 * m) (drop (4 + 8 * index) (source i))) (here1 i))) in
      let here3 : h3 fresh ≡ Some d2 = changed-others h2 h3 cell None three fresh apart ∙ here2 in
      let now : held h3 fresh ≡ d2 = held-of h3 fresh d2 here3 in
      let parted : length entries ≡ index + m = omega (arith, number) in
      let left : length entries - index ≡ m = omega (arith, number) in
      let same : length (held h3 fresh) ≡ length d = ap length now ∙ (d2_long ∙ d1_long) in
      record {
        exists = subst IsSome (sym here3) refl;
        room = omega (arith, same, number, room);
        before = ap (hinted_entries index 4) now
            ∙ (kept (12 + 8 * index) back d1 back_fits index 4 (omega arith)
            ∙ (copied 4 4 (8 * index) c d (omega (arith, big, number)) (omega arith) index (omega arith)
            ∙ front-is h0 cell index m entries leaf parted));
        behind = ap (λ n. hinted_entries n (12 + 8 * index) (held h3 fresh)) left
            ∙ (ap (hinted_entries m (12 + 8 * index)) now
            ∙ (copied (4 + 8 * index) (12 + 8 * index) (8 * m) c d1 (omega (arith, big, number)) (omega (arith, d1_long)) m (omega arith)
            ∙ back-is h0 cell index m entries leaf parted));
      }

-- ---- the head written over entries

module _ (heap : Heap) (cell count : ℕ) (c : List ℕ) (entries : List Entry) (here : heap cell ≡ Some (splice 0 (head_bytes HashLeaf count) c))
    (few : count ≤ LEAF_LIMIT) (long : 4 + 8 * count ≤ length c) where
  fits : 0 + length (head_bytes HashLeaf count) ≤ length c
  fits = omega arith

  signed : form_of (splice 0 (head_bytes HashLeaf count) c) ≡ Some HashLeaf
  unfolding splice
  signed = refl

  counted : half (splice 0 (head_bytes HashLeaf count) c) 2 ≡ count
  unfolding splice half
  counted = little_number-reads_back 2 count [] (omega arith)

  pub headed : hinted_entries count 4 c ≡ entries → IsLeaf heap cell entries
  headed body =
      leaf-made heap cell (splice 0 (head_bytes HashLeaf count) c) entries count here signed counted (omega (arith, length-splice 0 (head_bytes HashLeaf count) c fits))
      (kept-behind 0 (head_bytes HashLeaf count) c fits count 4 (omega arith) ∙ body)

-- ---- the gap filled

module _ (c : List ℕ) (at : ℕ) (entry : Entry) (fits : at + 8 ≤ length c) (offset : entry.offset < 2 ^ 32) (hint : entry.hint < 2 ^ 32) where
  abbrev put : List ℕ
  put = splice at (entry_bytes HashLeaf entry) c

  offset-put : word put at ≡ entry.offset
  unfolding word
  offset-put =
      let z : at + 0 ≡ at = omega arith in
      let there : drop at put ≡ entry_bytes HashLeaf entry ++ drop (at + 8) c = ap (λ n. drop n put) (sym z) ∙ drop-within at (entry_bytes HashLeaf entry) c fits 0 (omega arith) in
      ap (little_number 4) there ∙ little_number-reads_back 4 entry.offset [] offset

  hint-put : word put (at + 4) ≡ entry.hint
  unfolding word
  hint-put =
      let there : drop (at + 4) put ≡ little_bytes 4 entry.hint ++ drop (at + 8) c = drop-within at (entry_bytes HashLeaf entry) c fits 4 (omega arith) in
      ap (little_number 4) there ∙ little_number-reads_back 4 entry.hint [] hint

  pub entry-put : ◌≡◌ {A = Entry} (record { offset = word put at; hint = word put (at + 4) }) entry
  entry-put = λ i. record { offset = offset-put i; hint = hint-put i }

pub filled : (h0 h1 h2 : Heap) (cell index count : ℕ) (entry : Entry) → count ≤ LEAF_LIMIT → entry.offset < 2 ^ 32 → entry.hint < 2 ^ 32
    → h1 cell ≡ Some (splice (4 + 8 * index) (entry_bytes HashLeaf entry) (held h0 cell)) → h2 cell ≡ Some (splice 0 (head_bytes HashLeaf count) (held h1 cell))
    → (entries : List Entry) → HasGap h0 cell index entries → length entries + 1 ≡ count → index ≤ length entries → IsLeaf h2 cell (with_one index entry entries)
filled h0 h1 h2 cell index count entry few offset hint one two entries gap number within =
    let c : List ℕ = held h0 cell in
    let room = gap.room in
    let m : ℕ = length entries - index in
    let E : List ℕ = entry_bytes HashLeaf entry in
    let fits : 4 + 8 * index + length E ≤ length c = omega (arith, room, within) in
    let d : List ℕ = splice (4 + 8 * index) E c in
    let long : length d ≡ length c = length-splice (4 + 8 * index) E c fits in
    let now : held h1 cell ≡ d = held-of h1 cell d one in
    let here : h2 cell ≡ Some (splice 0 (head_bytes HashLeaf count) d) = two ∙ ap (λ c. Some (splice 0 (head_bytes HashLeaf count) c)) now in
    let parted : count ≡ index + suc m = omega (arith, number, within) in
    let front : hinted_entries index 4 d ≡ take index entries = kept (4 + 8 * index) E c fits index 4 (omega arith) ∙ gap.before in
    let next : 4 + 8 * index + 8 ≡ 12 + 8 * index = omega arith in
    let back : hinted_entries m (4 + 8 * index + 8) d ≡ drop index entries = kept-behind (4 + 8 * index) E c fits m (4 + 8 * index + 8)
    (omega arith) ∙ (ap (λ a. hinted_entries m a c) next ∙ gap.behind) in
    headed h2 cell count d (with_one index entry entries) here few (omega (arith, long, room, number))
    (ap (λ n. hinted_entries n 4 d) parted
    ∙ (hinted-append index (suc m) 4 d
    ∙ (λ i. front i ++ entry-put c (4 + 8 * index) entry fits offset hint i ∷ back i)))

-- ---- an entry taken out

pub closed : (h0 h1 h2 : Heap) (cell left index : ℕ) → left ≤ LEAF_LIMIT → index ≤ left
    → ((offset : ℕ) → h1 offset ≡ cond (offset == cell) (Some (splice (4 + 8 * index) (take (8 * (left - index)) (drop (12 + 8 * index) (held h0 cell))) (held h0 cell))) (h0 offset))
    → h2 cell ≡ Some (splice 0 (head_bytes HashLeaf left) (held h1 cell))
    → (entries : List Entry) → IsLeaf h0 cell entries → length entries ≡ left + 1 → IsLeaf h2 cell (without index entries)
closed h0 h1 h2 cell left index few within one two entries is number =
    let leaf = leaf-open h0 cell entries is in
    let c : List ℕ = held h0 cell in
    let big = leaf.says.long in
    let m : ℕ = left - index in
    let piece : List ℕ = take (8 * m) (drop (12 + 8 * index) c) in
    let piece_long : length piece ≡ 8 * m = length-part (12 + 8 * index) (8 * m) c (omega (arith, big, number)) in
    let fits : 4 + 8 * index + length piece ≤ length c = omega (arith, big, number, piece_long) in
    let d : List ℕ = splice (4 + 8 * index) piece c in
    let long : length d ≡ length c = length-splice (4 + 8 * index) piece c fits in
    let now : held h1 cell ≡ d = held-of h1 cell d (changed-here h0 h1 cell (Some d) one) in
    let here : h2 cell ≡ Some (splice 0 (head_bytes HashLeaf left) d) = two ∙ ap (λ c. Some (splice 0 (head_bytes HashLeaf left) c)) now in
    let parted : left ≡ index + m = omega (arith, within) in
    let first : length entries ≡ index + suc m = omega (arith, number, within) in
    let second : length entries ≡ (index + 1) + m = omega (arith, number, within) in
    let front : hinted_entries index 4 d ≡ take index entries = kept (4 + 8 * index) piece c fits index 4 (omega arith) ∙ front-is h0 cell index (suc m) entries leaf first in
    let next : 12 + 8 * index ≡ 4 + 8 * (index + 1) = omega arith in
    let back : hinted_entries m (4 + 8 * index) d ≡ drop (index + 1) entries =
    copied (12 + 8 * index) (4 + 8 * index) (8 * m) c c (omega (arith, big, number)) (omega (arith, big, number)) m (omega arith)
    ∙ (ap (λ a. hinted_entries m a c) next ∙ back-is h0 cell (index + 1) m entries leaf second) in
    headed h2 cell left d (without index entries) here few (omega (arith, long, big, number))
    (ap (λ n. hinted_entries n 4 d) parted ∙ (hinted-append index m 4 d ∙ (λ i. front i ++ back i)))

-- ---- some entries copied to another cell

pub part-fits : (heap : Heap) (cell from count : ℕ) → ((entries : List Entry) × IsLeaf heap cell entries × (from + count ≤ length entries)) →
    4 + 8 * from + 8 * count ≤ length (held heap cell)
part-fits heap cell from count s = omega (arith, (leaf-open heap cell s.0 s.1).says.long, s.2)

pub copied-part : (h0 h1 h2 : Heap) (cell other from count : ℕ) → count ≤ LEAF_LIMIT → 4 + 8 * count ≤ length (held h0 other)
    → ((offset : ℕ) → h1 offset ≡ cond (offset == other) (Some (splice 4 (take (8 * count) (drop (4 + 8 * from) (held h0 cell))) (held h0 other))) (h0 offset))
    → h2 other ≡ Some (splice 0 (head_bytes HashLeaf count) (held h1 other))
    → (entries : List Entry) → IsLeaf h0 cell entries → from + count ≤ length entries → IsLeaf h2 other (take count (drop from entries))
copied-part h0 h1 h2 cell other from count few room one two entries is within =
    let leaf = leaf-open h0 cell entries is in
    let c : List ℕ = held h0 cell in
    let d : List ℕ = held h0 other in
    let big = leaf.says.long in
    let rest : ℕ = length entries - (from + count) in
    let piece : List ℕ = take (8 * count) (drop (4 + 8 * from) c) in
    let long : length piece ≡ 8 * count = length-part (4 + 8 * from) (8 * count) c (omega (arith, big, within)) in
    let fits : 4 + length piece ≤ length d = omega (arith, long, room) in
    let now : held h1 other ≡ splice 4 piece d = held-of h1 other (splice 4 piece d) (changed-here h0 h1 other (Some (splice 4 piece d)) one) in
    let here : h2 other ≡ Some (splice 0 (head_bytes HashLeaf count) (splice 4 piece d)) = two ∙ ap (λ c. Some (splice 0 (head_bytes HashLeaf count) c)) now in
    let parted : length entries ≡ from + (count + rest) = omega (arith, within) in
    let part : hinted_entries count (4 + 8 * from) c ≡ take count (drop from entries) =
    sym (take-hinted count rest (4 + 8 * from) c) ∙ ap (take count) (back-is h0 cell from (count + rest) entries leaf parted) in
    headed h2 other count (splice 4 piece d) (take count (drop from entries)) here few (omega (arith, length-splice 4 piece d fits, room))
    (copied (4 + 8 * from) 4 (8 * count) c d (omega (arith, big, within)) (omega (arith, room)) count (omega arith) ∙ part)
