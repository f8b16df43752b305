-- Segments of big data, read one by one.
use Rattle.std.proofs.Common.{◌≡◌, ℕ, zero, suc, ◌+◌, ◌-◌, ◌*◌, ◌<◌, ◌≤◌, min, Some, None, IsSome, List, [], ◌∷◌, ◌++◌, length, drop, take}
use Rattle.std.proofs.Common.{get_or, refl, sym, ap, ◌∙◌, subst, arith, length-take}
use Rattle.std.proofs.lemmas.Option.{none-some}
use Rattle.std.proofs.Math.Seq.{drop-append-add}
use Rattle.std.proofs.lemmas.List.{take_all, take-take, drop-take, take-append-drop, nil_from_length}
use Rattle.reg_records.specs.declared.db.TheConstants.{SEGMENT_SIZE}
use Rattle.reg_heap.specs.Heaps.{Heap}
use Rattle.reg_heap.specs.Kinds.{Found}
use Rattle.reg_heap.specs.Kinds.Kind.{Segment}
use Rattle.std.specs.Prelude.{Ok, Err}
use Rattle.std.specs.Result.{result_ok}
use Rattle.reg_records.specs.declared.RecordFault.{RecordFault}
use Rattle.reg_records.specs.RecordCells.{held}
use Rattle.reg_records.specs.BigData.{named, BigData, segment_size, segments_for, segments, db_of, db_in}
use Rattle.reg_records.specs.OffsetRows.{offsets_at}
use Rattle.reg_shape.specs.Nodes.{pieces_at}
use Rattle.reg_values.specs.Internal.ValueListParts.{segments_at}
use Rattle.reg_values.proofs.ValueListing.ValueListOpening.{length-offsets}
use Rattle.reg_values.proofs.ValueListing.FoundValues.{some-of, held-is}
use Rattle.reg_values.proofs.ValueData.DataPieces.{piece-open, times-suc, segments-length, enough-segments}

-- ---- one segment of several

-- a front of two lists joined, where it is the first of them, or where the first is shorter and the second empty
take-first : (size : ℕ) (first rest : List ℕ) → length first ≤ size → (length first < size → rest ≡ []) → take size (first ++ rest) ≡ first
take-first zero [] rest l n = refl
take-first (suc size) [] rest l n = ap (take (suc size)) (n (omega arith))
take-first zero (x ∷ first) rest l n = absurd (omega arith)
take-first (suc size) (x ∷ first) rest l n = ap (λ xs. x ∷ xs) (take-first size first rest (omega arith) (λ l. n (omega arith)))

-- the segment at an index: its cell, and which of all bytes it has
pub record IsSegment (heap : Heap) (size i : ℕ) (row all : List ℕ) : Type 0 where
  pub content : List ℕ
  pub here : heap (get_or row i 0) ≡ Some content
  pub long : min segment_size (size - segment_size * i) ≤ length content
  pub is : take (min segment_size (size - segment_size * i)) content ≡ take segment_size (drop (segment_size * i) all)

pub segment-open : (heap : Heap) (size i : ℕ) (row all : List ℕ) (met : List Found) → i < length row → segment_size * i < size →
    pieces_at (segments size row) heap ≡ Some (all, met) → IsSegment heap size i row all
segment-open heap size i [] all met l m e = absurd (omega arith)
segment-open heap size zero (o ∷ row) all met l m e =
    let p = piece-open heap (named Segment (min segment_size size) o) (segments (size - segment_size) row) all met e in
    let n : size - segment_size * 0 ≡ size = omega arith in
    let none : segment_size * 0 ≡ 0 = omega arith in
    let first : List ℕ = take (min segment_size size) p.content in
    let long = p.long in
    let first_long : length first ≡ min segment_size size = omega (arith, long, length-take (min segment_size size) p.content) in
    let behind : length first < segment_size → p.rest ≡ [] =
    λ l. nil_from_length p.rest (segments-length heap (size - segment_size) row p.rest p.cells (omega (arith, l, first_long)) p.rest_is ∙ omega (arith, l, first_long)) in
    record {
      content = p.content;
      here = p.here;
      long = subst (λ n. min segment_size n ≤ length p.content) (sym n) p.long;
      is = ap (λ n. take (min segment_size n) p.content) n ∙
          (sym (take-first segment_size first p.rest (omega (arith, first_long)) behind) ∙
          (ap (take segment_size) (sym p.is) ∙ ap (λ n. take segment_size (drop n all)) (sym none)));
    }
segment-open heap size (suc i) (o ∷ row) all met l m e =
    let p = piece-open heap (named Segment (min segment_size size) o) (segments (size - segment_size) row) all met e in
    let more = times-suc segment_size i in
    let n : (size - segment_size) - segment_size * i ≡ size - segment_size * suc i = omega (arith, more) in
    let s = segment-open heap (size - segment_size) i row p.rest p.cells (omega arith) (omega (arith, m, more)) p.rest_is in
    let first : List ℕ = take (min segment_size size) p.content in
    let long = p.long in
    let first_long : length first ≡ segment_size = omega (arith, m, more, long, length-take (min segment_size size) p.content) in
    let behind : drop (segment_size * suc i) all ≡ drop (segment_size * i) p.rest =
    ap (drop (segment_size * suc i)) p.is ∙ (ap (λ n. drop n (first ++ p.rest)) (more ∙ ap (λ n. n + segment_size * i) (sym first_long)) ∙
    drop-append-add first p.rest (segment_size * i)) in
    record {
      content = s.content;
      here = s.here;
      long = subst (λ n. min segment_size n ≤ length s.content) n s.long;
      is = ap (λ n. take (min segment_size n) s.content) (sym n) ∙ (s.is ∙ ap (take segment_size) (sym behind));
    }

starts-within : (size i : ℕ) → i < segments_for size → segment_size * i < size
unfolding segment_size
starts-within size i l = omega (arith, l)

-- the same, of a list's cell
pub segment-of : (heap : Heap) (size i list : ℕ) (all : List ℕ) (met : List Found) → i < segments_for size →
    segments_at size (held heap list) heap ≡ Some (all, met) → IsSegment heap size i (offsets_at (segments_for size) 0 (held heap list)) all
segment-of heap size i list all met l e =
    let many = length-offsets (segments_for size) 0 (held heap list) in
    segment-open heap size i (offsets_at (segments_for size) 0 (held heap list)) all met (omega (arith, l, many)) (starts-within size i l) e

-- all of the list's segments are as long as the data
pub segments-long : (heap : Heap) (size list : ℕ) (all : List ℕ) (met : List Found) → segments_at size (held heap list) heap ≡ Some (all, met) → length all ≡ size
segments-long heap size list all met e =
    let row : List ℕ = offsets_at (segments_for size) 0 (held heap list) in
    segments-length heap size row all met
    (subst (λ n. size ≤ segment_size * n) (sym (length-offsets (segments_for size) 0 (held heap list))) (enough-segments size)) e

-- the bytes of so many segments, and those of the next
pub next-taken : (all : List ℕ) (i : ℕ) → take (SEGMENT_SIZE * i) all ++ take SEGMENT_SIZE (drop (SEGMENT_SIZE * i) all) ≡ take (SEGMENT_SIZE * (i + 1)) all
next-taken all i =
    let n : SEGMENT_SIZE * i + SEGMENT_SIZE ≡ SEGMENT_SIZE * (i + 1) = omega arith in
    let both : List ℕ = take (SEGMENT_SIZE * i + SEGMENT_SIZE) all in
    ap (λ xs. xs ++ take SEGMENT_SIZE (drop (SEGMENT_SIZE * i) all)) (sym (take-take (SEGMENT_SIZE * i) (SEGMENT_SIZE * i + SEGMENT_SIZE) all (omega arith))) ∙
    (ap (λ xs. take (SEGMENT_SIZE * i) both ++ xs) (sym (drop-take (SEGMENT_SIZE * i) SEGMENT_SIZE all)) ∙
    (take-append-drop (SEGMENT_SIZE * i) both ∙ ap (λ n. take n all) n))

pub all-taken : (heap : Heap) (size list i : ℕ) (all : List ℕ) (met : List Found) → segments_at size (held heap list) heap ≡ Some (all, met) →
    segments_for size ≤ i → take (SEGMENT_SIZE * i) all ≡ all
unfolding segment_size
all-taken heap size list i all met e l = let long = segments-long heap size list all met e in take_all (SEGMENT_SIZE * i) all (omega (arith, long, l))

pub segment-is : segment_size ≡ SEGMENT_SIZE
unfolding segment_size
segment-is = refl

pub count-is : (size i n : ℕ) → n ≡ min (size - SEGMENT_SIZE * i) SEGMENT_SIZE → n ≡ min segment_size (size - segment_size * i)
unfolding segment_size
count-is size i n e = omega (arith, e)

pub within : (size i count : ℕ) → count ≡ segments_for size → i < count → SEGMENT_SIZE * i < size
unfolding segment_size
within size i count e l = omega (arith, e, l)

-- ---- big data records, read

pub db-read : (heap : Heap) (offset : ℕ) (content : List ℕ) (big : BigData) → heap offset ≡ Some content → db_in content ≡ Ok big → db_of (held heap offset) ≡ Some big
unfolding db_of
db-read heap offset content big e d = ap (λ c. result_ok (db_in c)) (held-is heap offset content e) ∙ ap result_ok d

pub no-db-fault : (heap : Heap) (offset : ℕ) (content : List ℕ) (fault : RecordFault) → heap offset ≡ Some content → db_in content ≡ Err fault → IsSome (db_of (held heap offset)) → ⊥
unfolding db_of
no-db-fault heap offset content fault e d s =
    let none : db_of (held heap offset) ≡ None = ap (λ c. result_ok (db_in c)) (held-is heap offset content e) ∙ ap result_ok d in
    let x = some-of (db_of (held heap offset)) s in
    none-some _ (sym none ∙ x.1)
