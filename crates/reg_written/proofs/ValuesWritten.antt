-- Values that pass the tests are as this project writes them, and those that are pass.
use Rattle.std.proofs.Common.{◌≡◌, ℕ, zero, suc, ◌-◌, ◌*◌, ◌<◌, ◌≤◌, ◌==◌, ◌||◌, nat_le, nat_lt, Bool, true, false, cond, Option, Some, None, List, [], ◌∷◌, length, drop, replicate, refl, sym, ap, ◌∙◌, subst, arith}
use Rattle.std.specs.List.{AllByRecursion, list_all}
use Rattle.std.proofs.lemmas.Bool.{eqb-true, eq-eqb, leb-true, le-leb, ltb-true, lt-ltb, false≢true}
use Rattle.std.proofs.lemmas.Option.{same_Some}
use Rattle.std.proofs.lemmas.List.{length-drop}
use Rattle.byteorder.specs.Endian.{little_bytes}
use Rattle.reg_heap.specs.ByteWords.{half}
use Rattle.reg_heap.specs.Heaps.{Heap}
use Rattle.reg_heap.specs.Kinds.{Found}
use Rattle.reg_heap.specs.Paths.{Member}
use Rattle.reg_records.specs.declared.nk.KeyFields.{KeyFields}
use Rattle.reg_records.specs.declared.vk.ValueFields.{ValueFields}
use Rattle.reg_records.specs.RecordCells.{held}
use Rattle.reg_records.specs.KeyValues.{KeyValueRecord}
use Rattle.reg_records.specs.BigData.{BigData, segment_size, is_inline, inline_size, segments_for, db_of}
use Rattle.reg_shape.specs.Readings.{each}
use Rattle.reg_shape.specs.Nodes.{member_at}
use Rattle.reg_shape.specs.Written.{IsWrittenData, IsWrittenValue}
use Rattle.reg_shape.proofs.Walking.ReadingParts.{each-open}
use Rattle.reg_values.proofs.ValueListing.FoundValues.{member-open, name-told}
use Rattle.reg_values.proofs.ValueData.DataPieces.{data-length}
use Rattle.reg_written.specs.Internal.KeyTests.{has_zeros, has_segments, is_far, is_data, data_size, is_record, is_within, is_value, is_value_in, is_value_at}
use Rattle.reg_written.proofs.CellsRead.{both, and-made}

-- ---- zeros

pub all-zero : (xs : List ℕ) → list_all (λ b. b == 0) xs ≡ true → xs ≡ replicate (length xs) 0
all-zero [] e = refl
all-zero (x ∷ xs) e =
    let b = both (x == 0) _ e in
    ap (λ (y : ℕ). y ∷ xs) (eqb-true x 0 b.0) ∙ ap (λ (ys : List ℕ). 0 ∷ ys) (all-zero xs b.1)

pub zero-all : (n : ℕ) → list_all (λ b. b == 0) (replicate n 0) ≡ true
zero-all zero = refl
zero-all (suc n) = zero-all n

drop-long : (count offset : ℕ) → length (drop count (little_bytes 4 offset)) ≡ 4 - count
drop-long count offset = length-drop count (little_bytes 4 offset)

zeros-open : (count offset : ℕ) → has_zeros count offset ≡ true → drop count (little_bytes 4 offset) ≡ replicate (4 - count) 0
zeros-open count offset e = all-zero (drop count (little_bytes 4 offset)) e ∙ ap (λ (n : ℕ). replicate n 0) (drop-long count offset)

zeros-made : (count offset : ℕ) → drop count (little_bytes 4 offset) ≡ replicate (4 - count) 0 → has_zeros count offset ≡ true
zeros-made count offset e = ap (list_all (λ b. b == 0)) e ∙ zero-all (4 - count)

-- ---- data

either : (a b : Bool) → (a || b) ≡ true → a ≡ false → b ≡ true
either true b e f = absurd (false≢true (sym f))
either false b e f = e

module _ (heap : Heap) where
  record HasJust (value : ValueFields) (o : Option BigData) : Type 0 where
    big : BigData
    is : o ≡ Some big
    count : big.count ≡ segments_for value.size

  just-open : (value : ValueFields) (o : Option BigData) → has_segments (segments_for value.size) o ≡ true → HasJust value o
  just-open value None e = absurd (false≢true e)
  just-open value (Some big) e = record { big = big; is = refl; count = eqb-true _ _ e }

  past : (size : ℕ) → segment_size < size → nat_le size segment_size ≡ false
  past size l = by (nat_le size segment_size) refl
    where
      by : (b : Bool) → nat_le size segment_size ≡ b → nat_le size segment_size ≡ false
      by true e = (let m = leb-true size segment_size e in absurd (omega (arith, l, m)))
      by false e = e

  pub data-open : (value : ValueFields) → is_data heap value ≡ true → IsWrittenData heap value
  data-open value e = record {
    inline = λ i. zeros-open (inline_size value.size) value.offset (ap (λ (b : Bool). cond b (has_zeros (inline_size value.size) value.offset) (is_far heap value)) (sym i) ∙ e);
    far = λ f. ltb-true 4 value.size (both (nat_lt 4 value.size) _ (far f)).0;
    big = λ f l. just (just-open value (db_of (held heap value.offset)) (either (nat_le value.size segment_size) _ (both (nat_lt 4 value.size) _ (far f)).1 (past value.size l)));
  }
    where
      far : is_inline value.size ≡ false → is_far heap value ≡ true
      far f = ap (λ (b : Bool). cond b (has_zeros (inline_size value.size) value.offset) (is_far heap value)) (sym f) ∙ e

      just : HasJust value (db_of (held heap value.offset)) → (big : BigData) × (db_of (held heap value.offset) ≡ Some big) × (big.count ≡ segments_for value.size)
      just j = (j.big, j.is, j.count)

  pub data-made : (value : ValueFields) → IsWrittenData heap value → is_data heap value ≡ true
  data-made value w = by (is_inline value.size) refl
    where
      big : (s : Bool) → nat_le value.size segment_size ≡ s → is_inline value.size ≡ false → (s || has_segments (segments_for value.size) (db_of (held heap value.offset))) ≡ true
      big true e f = refl
      big false e f =
          let b = w.big f (grind (arith, e)) in
          ap (has_segments (segments_for value.size)) b.1 ∙ eq-eqb _ _ b.2

      by : (b : Bool) → is_inline value.size ≡ b → cond b (has_zeros (inline_size value.size) value.offset) (is_far heap value) ≡ true
      by true i = zeros-made (inline_size value.size) value.offset (w.inline i)
      by false f = and-made (nat_lt 4 value.size) _ (lt-ltb _ _ (w.far f)) (big (nat_le value.size segment_size) refl f)

  -- ---- a value

  pub record FitsKey (key : KeyFields) (m : Member) : Type 0 where
    pub name : 2 * length m.name ≤ key.largest_value_name
    pub size : length m.bytes ≤ key.largest_value_data

  module _ (key : KeyFields) (offset : ℕ) (m : Member) (zs : List Found) (e : member_at offset heap ≡ Some (m, zs)) where
    test-is : is_value_at heap key offset ≡ is_value heap key (held heap offset) (member-open heap offset m zs e).value
    test-is = ap (is_value_in heap key (held heap offset)) (member-open heap offset m zs e).reads

    size-is : length m.bytes ≡ data_size (member-open heap offset m zs e).value.fields.size
    size-is =
        let o = member-open heap offset m zs e in
        data-length heap (is_inline o.value.fields.size) (nat_le o.value.fields.size segment_size) o.value.fields.size o.value.fields.offset m.bytes o.cells o.data_is

    name-is : (member-open heap offset m zs e).value.fields.flags ≡ cond (length (member-open heap offset m zs e).value.name == 0) 0 1 → m.name ≡ (member-open heap offset m zs e).value.name
    name-is flags =
        let o = member-open heap offset m zs e in
        ap (λ (x : Member). x.name) o.is ∙ name-told o.value.fields.flags o.value.name flags

    pub value-open : is_value_at heap key offset ≡ true → IsWrittenValue heap offset × FitsKey key m
    value-open t =
        let o = member-open heap offset m zs e in
        let a = both (is_record (held heap offset) o.value) _ (sym test-is ∙ t) in
        let b = both (is_within key o.value) _ a.1 in
        let r = both (half (held heap offset) 18 == 0) _ a.0 in
        let w = both (nat_le (2 * length o.value.name) key.largest_value_name) _ b.0 in
        let flags = eqb-true _ _ r.1 in
        let name = ap length (name-is flags) in
        let long = leb-true _ _ w.0 in
        let large = leb-true _ _ w.1 in
        let size = size-is in (
          record { value = o.value; reads = o.reads; plain = eqb-true _ _ r.0; flags = flags; data_is = data-open o.value.fields b.1 },
          record { name = omega (arith, name, long); size = omega (arith, size, large) },
        )

    pub value-made : IsWrittenValue heap offset → FitsKey key m → is_value_at heap key offset ≡ true
    value-made w f =
        let o = member-open heap offset m zs e in
        let same : w.value ≡ o.value = same_Some _ _ (sym w.reads ∙ o.reads) in
        let flags = subst (λ (v : KeyValueRecord). v.fields.flags ≡ cond (length v.name == 0) 0 1) same w.flags in
        let name = ap length (name-is flags) in
        let size = size-is in
        test-is
        ∙ and-made (is_record (held heap offset) o.value) _ (and-made (half (held heap offset) 18 == 0) _ (eq-eqb _ _ w.plain) (eq-eqb _ _ flags))
        (and-made (is_within key o.value) _
        (and-made (nat_le (2 * length o.value.name) key.largest_value_name) _ (le-leb _ _ (let l = f.name in omega (arith, name, l))) (le-leb _ _ (let l = f.size in omega (arith, size, l))))
        (data-made o.value.fields (subst (λ (v : KeyValueRecord). IsWrittenData heap v.fields) same w.data_is)))

  -- ---- all values

  pub values-open : (key : KeyFields) (row : List ℕ) (members : List Member) (zs : List Found) → each member_at row heap ≡ Some (members, zs) → list_all (is_value_at heap key) row ≡ true →
      AllByRecursion (IsWrittenValue heap) row × AllByRecursion (FitsKey key) members
  values-open key [] members zs e t = (tt, subst (AllByRecursion (FitsKey key)) (ap (λ (p : List Member × List Found). p.0) (same_Some _ _ e)) tt)
  values-open key (offset ∷ row) members zs e t =
      let o = each-open member_at heap offset row members zs e in
      let b = both (is_value_at heap key offset) _ t in
      let v = value-open key offset o.head o.head_cells o.head_is b.0 in
      let r = values-open key row o.tail o.tail_cells o.tail_is b.1 in
      ((v.0, r.0), subst (AllByRecursion (FitsKey key)) o.result (v.1, r.1))

  pub values-made : (key : KeyFields) (row : List ℕ) (members : List Member) (zs : List Found) → each member_at row heap ≡ Some (members, zs) → AllByRecursion (IsWrittenValue heap) row →
      AllByRecursion (FitsKey key) members → list_all (is_value_at heap key) row ≡ true
  values-made key [] members zs e a f = refl
  values-made key (offset ∷ row) members zs e a f =
      let o = each-open member_at heap offset row members zs e in
      let g = subst (AllByRecursion (FitsKey key)) (sym o.result) f in
      and-made (is_value_at heap key offset) _ (value-made key offset o.head o.head_cells o.head_is a.0 g.0) (values-made key row o.tail o.tail_cells o.tail_is a.1 g.1)
