-- The data of a value, in pieces.
use Rattle.std.proofs.Common.{◌≡◌, ℕ, zero, suc, ◌+◌, ◌-◌, ◌*◌, ◌<◌, ◌≤◌, ◌==◌, nat_le, min, cond, Bool, true, false, Some, IsSome, List, [], ◌∷◌, ◌++◌, length, take}
use Rattle.std.proofs.Common.{refl, sym, ap, ◌∙◌, subst, arith, length-append, length-take}
use Rattle.std.specs.List.{concat}
use Rattle.std.proofs.lemmas.Option.{same_Some}
use Rattle.std.proofs.lemmas.Bool.{leb-true, le-leb}
use Rattle.std.proofs.lemmas.List.{append-nil}
use Rattle.byteorder.specs.Endian.{little_bytes}
use Rattle.reg_heap.specs.Heaps.{Heap}
use Rattle.reg_heap.specs.Kinds.{Found, owned, times}
use Rattle.reg_heap.specs.Kinds.Kind.{BigHead, BigList, Segment, Data}
use Rattle.reg_shape.specs.Readings.{◌>>=◌, give, given, cell, guard, each}
use Rattle.reg_shape.proofs.Walking.ReadingParts.{bind-open, bind-made, given-open, given-made, cell-open, cell-made, each-open, guard-open, guard-made}
use Rattle.reg_records.specs.RecordCells.{held}
use Rattle.reg_records.specs.OffsetRows.{row_in, offsets_at}
use Rattle.reg_records.specs.BigData.{Named, named, BigData, segment_size, inline_size, segments_for, segments, db_of}
use Rattle.reg_shape.specs.Nodes.{bytes_at, pieces_at, row_at, big_in, big_at, data_by}
use Rattle.reg_shape.proofs.Walking.ReadingWalks.{row-open}
use Rattle.reg_shape.proofs.Frame.WrittenFrame.{row-is}
use Rattle.reg_values.proofs.ValueListing.FoundValues.{is-some, held-is, here-held, row-long, row-in}
use Rattle.reg_values.proofs.ValueListing.ValueListOpening.{length-offsets}

pub le-false : (m n : ℕ) → n < m → nat_le m n ≡ false
le-false m n l = by (nat_le m n) refl
  where
    by : (b : Bool) → nat_le m n ≡ b → nat_le m n ≡ false
    by true e = absurd (let q = leb-true m n e in omega arith)
    by false e = e

-- ---- one piece after another

pub record IsPiece (heap : Heap) (n : Named) (names : List Named) (bytes : List ℕ) (zs : List Found) : Type 0 where
  pub content : List ℕ
  pub rest : List ℕ
  pub cells : List Found
  pub here : heap n.offset ≡ Some content
  pub long : n.size ≤ length content
  pub rest_is : pieces_at names heap ≡ Some (rest, cells)
  pub is : bytes ≡ take n.size content ++ rest
  pub met : zs ≡ record { kind = n.kind; offset = n.offset } ∷ cells

pub pieces-none : (heap : Heap) (bytes : List ℕ) (zs : List Found) → pieces_at [] heap ≡ Some (bytes, zs) → (bytes ≡ []) × (zs ≡ [])
pieces-none heap bytes zs e =
    let p : ◌≡◌ {A = List ℕ × List Found} ([], []) (bytes, zs) = same_Some _ _ e in
    (sym (ap (λ (p : List ℕ × List Found). p.0) p), sym (ap (λ (p : List ℕ × List Found). p.1) p))

-- the pieces together, and those that are put together
together-open : (heap : Heap) (names : List Named) (bytes : List ℕ) (zs : List Found) → pieces_at names heap ≡ Some (bytes, zs) →
    (pieces : List (List ℕ)) × (each bytes_at names heap ≡ Some (pieces, zs)) × (bytes ≡ concat pieces)
together-open heap names bytes zs e =
    let o = bind-open (each bytes_at names) (λ pieces. give (concat pieces)) heap (bytes, zs) e in
    let p : ◌≡◌ {A = List ℕ × List Found} (concat o.first, []) o.then = same_Some _ _ o.then_is in (
      o.first,
      o.first_is ∙ ap (λ zs. Some (o.first, zs)) (sym (append-nil o.before) ∙ (ap (λ (p : List ℕ × List Found). o.before ++ p.1) p ∙ o.all)),
      sym (ap (λ (p : List ℕ × List Found). p.0) p ∙ o.result),
    )

together-made : (heap : Heap) (names : List Named) (pieces : List (List ℕ)) (zs : List Found) → each bytes_at names heap ≡ Some (pieces, zs) → pieces_at names heap ≡ Some (concat pieces, zs)
together-made heap names pieces zs e =
    bind-made (each bytes_at names) (λ pieces. give (concat pieces)) heap pieces zs (concat pieces, []) e refl ∙ ap (λ zs. Some (concat pieces, zs)) (append-nil zs)

bytes-open : (heap : Heap) (n : Named) (bytes : List ℕ) (zs : List Found) → bytes_at n heap ≡ Some (bytes, zs) →
    (content : List ℕ) × (heap n.offset ≡ Some content) × (n.size ≤ length content) × (bytes ≡ take n.size content) ×
    (zs ≡ record { kind = n.kind; offset = n.offset } ∷ [])
bytes-open heap n bytes zs e =
    let o = bind-open (cell n.kind n.offset) (λ content. guard (nat_le n.size (length content)) (give (take n.size content))) heap (bytes, zs) e in
    let c = cell-open n.kind n.offset heap o.first o.before o.first_is in
    let g = guard-open (nat_le n.size (length o.first)) (give (take n.size o.first)) heap o.then o.then_is in
    let p : ◌≡◌ {A = List ℕ × List Found} (take n.size o.first, []) o.then = same_Some _ _ g.1 in
    (o.first, c.0, leb-true _ _ g.0, sym (ap (λ (p : List ℕ × List Found). p.0) p ∙ o.result), sym o.all ∙ (ap (λ (p : List ℕ × List Found). o.before ++ p.1) (sym p) ∙ (append-nil o.before ∙ c.1)))

bytes-made : (heap : Heap) (n : Named) (content : List ℕ) → heap n.offset ≡ Some content → n.size ≤ length content →
    bytes_at n heap ≡ Some (take n.size content, record { kind = n.kind; offset = n.offset } ∷ [])
bytes-made heap n content e l =
    bind-made (cell n.kind n.offset) (λ content. guard (nat_le n.size (length content)) (give (take n.size content))) heap content _
    (take n.size content, []) (cell-made n.kind n.offset heap content e)
    (guard-made (nat_le n.size (length content)) (give (take n.size content)) heap (take n.size content, []) (le-leb _ _ l) refl)

pub piece-open : (heap : Heap) (n : Named) (names : List Named) (bytes : List ℕ) (zs : List Found) → pieces_at (n ∷ names) heap ≡ Some (bytes, zs) → IsPiece heap n names bytes zs
piece-open heap n names bytes zs e =
    let t = together-open heap (n ∷ names) bytes zs e in
    let o = each-open bytes_at heap n names t.0 zs t.1 in
    let b = bytes-open heap n o.head o.head_cells o.head_is in
    record {
      content = b.0;
      rest = concat o.tail;
      cells = o.tail_cells;
      here = b.1;
      long = b.2;
      rest_is = together-made heap names o.tail o.tail_cells o.tail_is;
      is = t.2 ∙ (ap concat (sym o.result) ∙ ap (λ xs. xs ++ concat o.tail) b.3);
      met = sym o.all ∙ ap (λ xs. xs ++ o.tail_cells) b.4;
    }

pub piece-made : (heap : Heap) (n : Named) (names : List Named) (content rest : List ℕ) (cells : List Found) → heap n.offset ≡ Some content →
    n.size ≤ length content → pieces_at names heap ≡ Some (rest, cells)
    → pieces_at (n ∷ names) heap ≡ Some (take n.size content ++ rest, record { kind = n.kind; offset = n.offset } ∷ cells)
piece-made heap n names content rest cells e l r =
    let t = together-open heap names rest cells r in
    let one : List Found = record { kind = n.kind; offset = n.offset } ∷ [] in
    let more : ◌>>=◌ (each bytes_at names) (λ ys. give (take n.size content ∷ ys)) heap ≡ Some (take n.size content ∷ t.0, cells ++ []) =
    bind-made (each bytes_at names) (λ ys. give (take n.size content ∷ ys)) heap t.0 cells (take n.size content ∷ t.0, []) t.1 refl in
    let all : each bytes_at (n ∷ names) heap ≡ Some (take n.size content ∷ t.0, one ++ (cells ++ [])) =
    bind-made (bytes_at n) (λ y. each bytes_at names >>= (λ ys. give (y ∷ ys))) heap (take n.size content) one (take n.size content ∷ t.0, cells ++ []) (bytes-made heap n content e l) more in
    together-made heap (n ∷ names) (take n.size content ∷ t.0) (one ++ (cells ++ [])) all
    ∙ ap (λ zs. Some (take n.size content ++ concat t.0, record { kind = n.kind; offset = n.offset } ∷ zs)) (append-nil cells)
    ∙ ap (λ xs. Some (take n.size content ++ xs, record { kind = n.kind; offset = n.offset } ∷ cells)) (sym t.2)

-- ---- segments

pub times-suc : (m n : ℕ) → m * suc n ≡ m + m * n
times-suc m n = grind arith

pub next-size : (m size i : ℕ) → (size - m * i) - m ≡ size - m * suc i
next-size m size i = let e = times-suc m i in omega (arith, e)

-- as long as they say, where there are enough
pub segments-length : (heap : Heap) (size : ℕ) (row bytes : List ℕ) (zs : List Found) → size ≤ segment_size * length row → pieces_at (segments size row) heap ≡ Some (bytes, zs) → length bytes ≡ size
segments-length heap size [] bytes zs l e = ap length (pieces-none heap bytes zs e).0 ∙ (let z : segment_size * length {A = ℕ} [] ≡ 0 = omega arith in omega arith)
segments-length heap size (o ∷ row) bytes zs l e =
    let p = piece-open heap (named Segment (min segment_size size) o) (segments (size - segment_size) row) bytes zs e in
    let many : segment_size * length (o ∷ row) ≡ segment_size + segment_size * length row = times-suc segment_size (length row) in
    let rest = segments-length heap (size - segment_size) row p.rest p.cells (omega (arith, l, many)) p.rest_is in
    let long = p.long in
    let whole = ap length p.is in
    omega (arith, whole, rest, length-append (take (min segment_size size) p.content) p.rest, length-take (min segment_size size) p.content, long)

-- and each is met once as the row has it
pub segments-owned : (heap : Heap) (offset size : ℕ) (row bytes : List ℕ) (zs : List Found) → pieces_at (segments size row) heap ≡ Some (bytes, zs) → owned offset zs ≡ times offset row
segments-owned heap offset size [] bytes zs e = ap (owned offset) (pieces-none heap bytes zs e).1
segments-owned heap offset size (o ∷ row) bytes zs e =
    let p = piece-open heap (named Segment (min segment_size size) o) (segments (size - segment_size) row) bytes zs e in
    ap (owned offset) p.met ∙ ap (λ n. cond (o == offset) 1 0 + n) (segments-owned heap offset (size - segment_size) row p.rest p.cells p.rest_is)

-- ---- big data

pub record IsBig (heap : Heap) (size offset : ℕ) (bytes : List ℕ) (zs : List Found) : Type 0 where
  pub big : BigData
  pub here : IsSome (heap offset)
  pub big_is : db_of (held heap offset) ≡ Some big
  pub count : segments_for size ≤ big.count
  pub list_here : IsSome (heap big.list)
  pub long : 4 * segments_for size ≤ length (held heap big.list)
  pub cells : List Found
  pub pieces : pieces_at (segments size (offsets_at (segments_for size) 0 (held heap big.list))) heap ≡ Some (bytes, cells)
  pub met : zs ≡ record { kind = BigHead; offset = offset } ∷ record { kind = BigList; offset = big.list } ∷ cells

pub big-open : (heap : Heap) (size offset : ℕ) (bytes : List ℕ) (zs : List Found) → big_at size offset heap ≡ Some (bytes, zs) → IsBig heap size offset bytes zs
big-open heap size offset bytes zs e =
    let o = bind-open (cell BigHead offset) (λ content. given (db_of content) >>= (λ big. guard (nat_le (segments_for size) big.count) (big_in size big))) heap (bytes, zs) e in
    let c = cell-open BigHead offset heap o.first o.before o.first_is in
    let t = bind-open (given (db_of o.first)) (λ big. guard (nat_le (segments_for size) big.count) (big_in size big)) heap o.then o.then_is in
    let d = given-open (db_of o.first) heap (t.first, t.before) t.first_is in
    let g = guard-open (nat_le (segments_for size) t.first.count) (big_in size t.first) heap t.then t.then_is in
    let b = bind-open (row_at BigList (segments_for size) t.first.list) (λ row. pieces_at (segments size row)) heap t.then g.1 in
    let r = row-open heap BigList (segments_for size) t.first.list b.first b.before b.first_is in
    let h : held heap t.first.list ≡ r.content = held-is heap t.first.list r.content r.here in
    let row : b.first ≡ offsets_at (segments_for size) 0 (held heap t.first.list) = sym (ap (offsets_at (segments_for size) 0) h ∙ row-is (segments_for size) r.content b.first r.row_is) in
    let long = row-long (segments_for size) r.content b.first r.row_is in
    let bytes_are : b.then.0 ≡ bytes = b.result ∙ (t.result ∙ o.result) in
    record {
      big = t.first;
      here = is-some _ o.first c.0;
      big_is = ap db_of (held-is heap offset o.first c.0) ∙ d.0;
      count = leb-true _ _ g.0;
      list_here = is-some _ r.content r.here;
      long = subst (λ (c : List ℕ). 4 * segments_for size ≤ length c) (sym h) long;
      cells = b.then.1;
      pieces = ap (λ row. pieces_at (segments size row) heap) (sym row) ∙ (b.then_is ∙ ap (λ x. Some (x, b.then.1)) bytes_are);
      met = sym o.all ∙ (ap (λ xs. xs ++ o.then.1) c.1 ∙ ap (λ xs. record { kind = BigHead; offset = offset } ∷ xs) (sym t.all ∙
          (ap (λ xs. xs ++ t.then.1) d.1 ∙ (sym b.all ∙ ap (λ xs. xs ++ b.then.1) r.met))));
    }

pub big-made : (heap : Heap) (size offset : ℕ) (big : BigData) (bytes : List ℕ) (cells : List Found) → IsSome (heap offset) →
    db_of (held heap offset) ≡ Some big → segments_for size ≤ big.count → IsSome (heap big.list) → 4 * segments_for size ≤ length (held heap big.list)
    → pieces_at (segments size (offsets_at (segments_for size) 0 (held heap big.list))) heap ≡ Some (bytes, cells)
    → big_at size offset heap ≡ Some (bytes, record { kind = BigHead; offset = offset } ∷ record { kind = BigList; offset = big.list } ∷ cells)
big-made heap size offset big bytes cells h d n l m p =
    let row : List ℕ = offsets_at (segments_for size) 0 (held heap big.list) in
    let row_is : row_at BigList (segments_for size) big.list heap ≡ Some (row, record { kind = BigList; offset = big.list } ∷ []) =
    bind-made (cell BigList big.list) (λ content. given (row_in (segments_for size) content)) heap (held heap big.list) _ (row, [])
    (cell-made BigList big.list heap _ (here-held heap big.list l)) (given-made _ row heap (row-in (segments_for size) (held heap big.list) m)) in
    let inner : big_in size big heap ≡ Some (bytes, record { kind = BigList; offset = big.list } ∷ cells) =
    bind-made (row_at BigList (segments_for size) big.list) (λ row. pieces_at (segments size row)) heap row _ (bytes, cells) row_is p in
    let guarded = guard-made (nat_le (segments_for size) big.count) (big_in size big) heap _ (le-leb _ _ n) inner in
    let then : ◌>>=◌ (given (db_of (held heap offset))) (λ big. guard (nat_le (segments_for size) big.count) (big_in size big)) heap ≡ Some (
      bytes,
      record { kind = BigList; offset = big.list } ∷ cells,
    ) =
    bind-made (given (db_of (held heap offset))) (λ big. guard (nat_le (segments_for size) big.count) (big_in size big)) heap big [] _ (given-made _ big heap d) guarded in
    bind-made (cell BigHead offset) (λ content. given (db_of content) >>= (λ big. guard (nat_le (segments_for size) big.count) (big_in size big)))
    heap (held heap offset) _ _ (cell-made BigHead offset heap _ (here-held heap offset h)) then

-- ---- data

pub enough-segments : (size : ℕ) → size ≤ segment_size * segments_for size
unfolding segment_size
enough-segments size = omega arith

pub data-length : (heap : Heap) (inline small : Bool) (size offset : ℕ) (bytes : List ℕ) (zs : List Found) →
    data_by inline small size offset heap ≡ Some (bytes, zs) → length bytes ≡ cond inline (inline_size size) size
data-length heap true small size offset bytes zs e =
    let g = guard-open (nat_le (inline_size size) 4) (give (take (inline_size size) (little_bytes 4 offset))) heap (bytes, zs) e in
    let p : ◌≡◌ {A = List ℕ × List Found} (take (inline_size size) (little_bytes 4 offset), []) (bytes, zs) = same_Some _ _ g.1 in
    let few = leb-true _ _ g.0 in
    let four : length (little_bytes 4 offset) ≡ 4 = refl in
    ap (λ (p : List ℕ × List Found). length p.0) (sym p) ∙ omega (arith, few, length-take (inline_size size) (little_bytes 4 offset), four)
data-length heap false true zero offset bytes zs e = ap length (pieces-none heap bytes zs e).0
data-length heap false true (suc n) offset bytes zs e =
    let p = piece-open heap (named Data (suc n) offset) [] bytes zs e in
    let r = (pieces-none heap p.rest p.cells p.rest_is).0 in
    let whole = ap length p.is in
    let long = p.long in
    let none = ap length r in
    omega (arith, whole, length-append (take (suc n) p.content) p.rest, length-take (suc n) p.content, long, none)
data-length heap false false size offset bytes zs e =
    let b = big-open heap size offset bytes zs e in
    segments-length heap size (offsets_at (segments_for size) 0 (held heap b.big.list)) bytes b.cells
    (subst (λ n. size ≤ segment_size * n) (sym (length-offsets (segments_for size) 0 (held heap b.big.list))) (enough-segments size)) b.pieces
