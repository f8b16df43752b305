-- Key values, written and read back.
use Rattle.std.proofs.Common.{◌≡◌, ℕ, ◌+◌, ◌^◌, ◌<◌, ◌≤◌, true, not, List, [], ◌++◌, length, get_or, take, drop, lit≤, ◌==◌, ◌&&◌, refl, sym, ap, ◌∙◌, arith, length-append}
use Rattle.std.proofs.lemmas.Bool.{le-ltb, ltb-false, not-false, cond-false}
use Rattle.std.proofs.lemmas.List.{length-drop, length-take-le}
use Rattle.std.proofs.Math.Seq.{take-append_seam}
use Rattle.std.specs.Prelude.{Ok, Some, IsSome}
use Rattle.byteorder.specs.Endian.{little_bytes, little_number}
use Rattle.byteorder.specs.Numbers.{little_number-reads_back}
use Rattle.reg_heap.specs.ByteWords.{half, word, splice}
use Rattle.reg_records.specs.declared.vk.ValueFields.{ValueFields}
use Rattle.reg_arena.specs.Arena.{Bins, heap_of}
use Rattle.reg_records.specs.Letters.{is_signed}
use Rattle.reg_records.specs.RecordCells.{Heap, HasRoom, WritesCell, held}
use Rattle.reg_records.proofs.RecordWriting.{read_at-same, read_at-open, read_at-made, read_at-room, read_at-changed, no_fault, same_ok}
use Rattle.reg_records.proofs.SplicedNumbers.{length-splice, get_or-below, number-below, number-above, drop-within, drop-above}
use Rattle.reg_records.specs.KeyValues.{KeyValueRecord, FitValue, vk_fields_of, vk_of, vk_bytes, value_record_at}

vk-made : (content : List ℕ) → 20 ≤ length content → is_signed 118 107 content ≡ true → 20 + half content 2 ≤ length content
    → vk_of content ≡ Ok (record { fields = vk_fields_of content; name = take (half content 2) (drop 20 content) })
unfolding vk_of
vk-made content long signed enough =
    cond-false _ _ _ (le-ltb _ _ long) ∙ (cond-false _ _ _ (ap not signed) ∙ cond-false _ _ _ (le-ltb _ _ enough))

vk-reads_back : (fields : ValueFields) (name rest : List ℕ) → FitValue fields → length name < 2 ^ 16
    → vk_of (vk_bytes fields name ++ rest) ≡ Ok (record { fields = fields; name = name })
unfolding vk_bytes half word
vk-reads_back fields name rest fit size =
    let content : List ℕ = vk_bytes fields name ++ rest in
    let at_2 : half content 2 ≡ length name = little_number-reads_back 2 (length name) [] size in
    let at_4 : word content 4 ≡ fields.size = little_number-reads_back 4 fields.size [] fit.size in
    let at_8 : word content 8 ≡ fields.offset = little_number-reads_back 4 fields.offset [] fit.offset in
    let at_12 : word content 12 ≡ fields.kind = little_number-reads_back 4 fields.kind [] fit.kind in
    let at_16 : half content 16 ≡ fields.flags = little_number-reads_back 2 fields.flags [] fit.flags in
    let long : length content ≡ 20 + (length name + length rest) = omega (arith, length-append name rest) in
    let text : take (half content 2) (drop 20 content) ≡ name = ap (λ n. take n (name ++ rest)) at_2 ∙ take-append_seam name rest in
    vk-made content (omega (arith, long)) refl (omega (arith, long, at_2))
    ∙ (λ i. Ok (record { fields = record { size = at_4 i; offset = at_8 i; kind = at_12 i; flags = at_16 i }; name = text i }))

-- a cell that a key value was written into reads as it
pub value_record_at-written : (old new : Bins) (cell : ℕ) (fields : ValueFields) (name rest : List ℕ)
    → WritesCell old new cell (vk_bytes fields name ++ rest) → FitValue fields → length name < 2 ^ 16
    → value_record_at (heap_of new) cell ≡ Some (record { fields = fields; name = name })
unfolding value_record_at
value_record_at-written old new cell fields name rest written fit size =
    read_at-made vk_of (heap_of new) cell _ _ written.here (vk-reads_back fields name rest fit size)

-- what a content that is a key value is like
pub record IsValue (content : List ℕ) (r : KeyValueRecord) : Type 0 where
  pub long : 20 ≤ length content
  pub signed : is_signed 118 107 content ≡ true
  pub enough : 20 + half content 2 ≤ length content
  pub same : r ≡ record { fields = vk_fields_of content; name = take (half content 2) (drop 20 content) }

pub vk-open : (content : List ℕ) (r : KeyValueRecord) → vk_of content ≡ Ok r → IsValue content r
unfolding vk_of
vk-open content r e =
    let a = no_fault _ _ _ r e in
    let b = no_fault _ _ _ r a.1 in
    let d = no_fault _ _ _ r b.1 in
    record {
      long = ltb-false _ _ a.0;
      signed = not-false _ b.0;
      enough = ltb-false _ _ d.0;
      same = same_ok _ _ (sym d.1);
    }

-- a record's name is as long as its field says
pub vk-name-long : (content : List ℕ) (r : KeyValueRecord) → vk_of content ≡ Ok r → length r.name ≡ half content 2
vk-name-long content r e =
    let v = vk-open content r e in
    ap (λ (r : KeyValueRecord). length r.name) v.same ∙ length-take-le (half content 2) (drop 20 content) (omega (arith, v.enough, length-drop 20 content))

-- a part between the name's length and the name written over
module _ (at : ℕ) (piece content : List ℕ) (r : KeyValueRecord) (low : 4 ≤ at) (high : at + length piece ≤ 20) (is : vk_of content ≡ Ok r) where
  value : IsValue content r
  value = vk-open content r is

  fits : at + length piece ≤ length content
  fits = let l = value.long in omega arith

  vk-spliced : (fields : ValueFields) → vk_fields_of (splice at piece content) ≡ fields → vk_of (splice at piece content) ≡ Ok (record { fields = fields; name = r.name })
  unfolding half
  vk-spliced fields e =
      let new : List ℕ = splice at piece content in
      let same_length : length new ≡ length content = length-splice at piece content fits in
      let name_length : half new 2 ≡ half content 2 = number-below at piece content fits 2 2 (omega arith) in
      let first : get_or new 0 0 ≡ get_or content 0 0 = get_or-below at piece content fits 0 (omega arith) in
      let second : get_or new 1 0 ≡ get_or content 1 0 = get_or-below at piece content fits 1 (omega arith) in
      let signed : is_signed 118 107 new ≡ true = ap (λ x. (x == 118) && (get_or new 1 0 == 107)) first ∙ ap (λ x. (get_or content 0 0 == 118) && (x == 107)) second ∙ value.signed in
      let behind : drop 20 new ≡ drop 20 content = drop-above at piece content fits 20 (omega arith) in
      let name : take (half new 2) (drop 20 new) ≡ r.name = ap (λ n. take n (drop 20 new)) name_length ∙ ap (take (half content 2)) behind ∙ sym (ap (λ (k : KeyValueRecord). k.name) value.same) in
      let long = value.long in
      let enough = value.enough in
      vk-made new (omega arith) signed (omega arith)
      ∙ (λ i. Ok (record { fields = e i; name = name i }))

-- another size, offset and type of the data
pub vk-filled : (size : ℕ) → size < 2 ^ 32 → (offset : ℕ) → offset < 2 ^ 32 → (kind : ℕ) → kind < 2 ^ 32 → (content : List ℕ) (r : KeyValueRecord) → vk_of content ≡ Ok r
    → vk_of (splice 4 (little_bytes 4 size ++ little_bytes 4 offset ++ little_bytes 4 kind) content) ≡ Ok (record r { fields = record r.fields { size = size; offset = offset; kind = kind } })
unfolding half word
vk-filled size fit0 offset fit1 kind fit2 content r is =
    let piece : List ℕ = little_bytes 4 size ++ little_bytes 4 offset ++ little_bytes 4 kind in
    let f : 4 + length piece ≤ length content = fits 4 piece content r (lit≤ tt) (lit≤ tt) is in
    let old : r.fields ≡ vk_fields_of content = ap (λ (k : KeyValueRecord). k.fields) (vk-open content r is).same in
    let new : List ℕ = splice 4 piece content in
    let to_size : word new 4 ≡ size = ap (little_number 4) (drop-within 4 piece content f 0 (lit≤ tt)) ∙ little_number-reads_back 4 size [] fit0 in
    let to_offset : word new 8 ≡ offset = ap (little_number 4) (drop-within 4 piece content f 4 (lit≤ tt)) ∙ little_number-reads_back 4 offset [] fit1 in
    let to_kind : word new 12 ≡ kind = ap (little_number 4) (drop-within 4 piece content f 8 (lit≤ tt)) ∙ little_number-reads_back 4 kind [] fit2 in
    let to_flags : half new 16 ≡ r.fields.flags = number-above 4 piece content f 2 16 (lit≤ tt) ∙ sym (ap (λ (k : ValueFields). k.flags) old) in
    vk-spliced 4 piece content r (lit≤ tt) (lit≤ tt) is (record r.fields { size = size; offset = offset; kind = kind })
    (λ i. record { size = to_size i; offset = to_offset i; kind = to_kind i; flags = to_flags i })

-- a key value has room for its fixed part
pub value-room : (heap : Heap) (cell size : ℕ) → size ≤ 20 → IsSome (value_record_at heap cell) → HasRoom heap cell size
unfolding value_record_at
value-room heap cell size small some = read_at-room vk_of 20 (λ content r is. (vk-open content r is).long) heap cell size small some

-- what a part written over does to a key value
pub value-changed : (at : ℕ) (piece : List ℕ) (change : KeyValueRecord → KeyValueRecord) → ((content : List ℕ) (r : KeyValueRecord) →
    vk_of content ≡ Ok r → vk_of (splice at piece content) ≡ Ok (change r))
    → (old new : Bins) (cell : ℕ) → WritesCell old new cell (splice at piece (held (heap_of old) cell))
    → (r : KeyValueRecord) → value_record_at (heap_of old) cell ≡ Some r → value_record_at (heap_of new) cell ≡ Some (change r)
unfolding value_record_at
value-changed at piece change changes old new cell written r e = read_at-changed vk_of at piece change changes old new cell written r e

-- a key value stands in one cell
pub value_record_at-same : (old new : Heap) (cell : ℕ) → new cell ≡ old cell → value_record_at new cell ≡ value_record_at old cell
unfolding value_record_at
value_record_at-same old new cell same = read_at-same vk_of old new cell same

-- what a reader of the cell's content answers
pub value_record_at-made : (heap : Heap) (cell : ℕ) (content : List ℕ) (r : KeyValueRecord) → heap cell ≡ Some content → vk_of content ≡ Ok r → value_record_at heap cell ≡ Some r
unfolding value_record_at
value_record_at-made heap cell content r here reads = read_at-made vk_of heap cell content r here reads

-- the content of a cell that holds a key value
pub value_record_at-open : (heap : Heap) (cell : ℕ) (r : KeyValueRecord) → value_record_at heap cell ≡ Some r → (content : List ℕ) × (heap cell ≡ Some content) × (vk_of content ≡ Ok r)
unfolding value_record_at
value_record_at-open heap cell r e = read_at-open vk_of heap cell r e
