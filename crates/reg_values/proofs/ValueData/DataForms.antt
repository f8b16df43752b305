-- The forms of data, and a value as it is told.
use Rattle.std.proofs.Common.{◌≡◌, ◌≢◌, ℕ, zero, suc, ◌<◌, ◌≤◌, ◌==◌, nat_le, not, cond, Bool, true, false, Some, IsSome, List, [], ◌∷◌, ◌++◌, length, take}
use Rattle.std.proofs.Common.{refl, sym, ap, ◌∙◌, subst, arith}
use Rattle.std.proofs.lemmas.Option.{same_Some}
use Rattle.std.proofs.lemmas.Bool.{leb-true, le-leb}
use Rattle.std.proofs.lemmas.List.{append-nil}
use Rattle.byteorder.specs.Endian.{little_bytes}
use Rattle.reg_records.specs.declared.db.TheConstants.{SEGMENT_SIZE}
use Rattle.reg_heap.specs.Heaps.{Heap}
use Rattle.reg_heap.specs.Kinds.{Found}
use Rattle.reg_heap.specs.Kinds.Kind.{Data}
use Rattle.reg_shape.specs.Readings.{give}
use Rattle.reg_shape.proofs.Walking.ReadingParts.{guard-open}
use Rattle.std.specs.Prelude.{bit_and}
use Rattle.reg_heap.specs.Paths.{Member}
use Rattle.reg_records.specs.KeyValues.{KeyValueRecord, value_record_at}
use Rattle.reg_shape.specs.Written.{IsWrittenData}
use Rattle.reg_records.specs.RecordCells.{held}
use Rattle.reg_records.specs.declared.vk.ValueFields.{ValueFields}
use Rattle.reg_records.specs.OffsetRows.{offset_in}
use Rattle.reg_records.specs.BigData.{named, if_any, segment_size, is_inline, inline_size}
use Rattle.reg_shape.specs.Nodes.{pieces_at, big_at, data_by, data_at, letters}
use Rattle.reg_values.proofs.ValueListing.FoundValues.{is-some, Stands, IsMember, member-open, name-told}
use Rattle.reg_values.proofs.ValueData.DataPieces.{le-false, pieces-none, piece-open, data-length}

-- ---- a value as it is told

module _ (heap : Heap) (offset : ℕ) (members : List Member) (index : ℕ) (s : Stands heap offset members index) (fields : ValueFields) (name : List ℕ)
    (e : value_record_at heap (offset_in (held heap offset) index) ≡ Some (record { fields = fields; name = name })) where
  abbrev value : KeyValueRecord
  value = record { fields = fields; name = name }

  pub opened : IsMember heap (offset_in (held heap offset) index) s.member s.cells
  opened = member-open heap (offset_in (held heap offset) index) s.member s.cells s.reads

  same : opened.value ≡ value
  same = same_Some _ _ (sym opened.reads ∙ e)

  pub told-name : s.member.name ≡ name
  told-name =
      let w : s.written.value ≡ value = same_Some _ _ (sym s.written.reads ∙ e) in
      let flags : fields.flags ≡ cond (length name == 0) 0 1 = subst (λ (v : KeyValueRecord). v.fields.flags ≡ cond (length v.name == 0) 0 1) w s.written.flags in
      ap (λ (m : Member). m.name) opened.is ∙ (ap (λ (v : KeyValueRecord). letters (not (bit_and v.fields.flags 1 == 0)) v.name) same ∙ name-told fields.flags name flags)

  pub told-kind : s.member.kind ≡ fields.kind
  told-kind = ap (λ (m : Member). m.kind) opened.is ∙ ap (λ (v : KeyValueRecord). v.fields.kind) same

  pub told-data : data_at fields heap ≡ Some (s.member.bytes, opened.cells)
  told-data = ap (λ (v : KeyValueRecord). data_at v.fields heap) (sym same) ∙ opened.data_is

  pub told-size : length s.member.bytes ≡ cond (is_inline fields.size) (inline_size fields.size) fields.size
  told-size = data-length heap (is_inline fields.size) (nat_le fields.size segment_size) fields.size fields.offset s.member.bytes opened.cells told-data

  pub told-written : IsWrittenData heap fields
  told-written = subst (λ (v : KeyValueRecord). IsWrittenData heap v.fields) (same_Some _ _ (sym s.written.reads ∙ e)) s.written.data_is

-- ---- the forms of data

no-length : (bytes : List ℕ) → length bytes ≡ 0 → bytes ≡ []
no-length [] e = refl
no-length (b ∷ bytes) e = absurd (omega (arith, e))

module _ (heap : Heap) (fields : ValueFields) (all : List ℕ) (met : List Found) (e : data_at fields heap ≡ Some (all, met)) where
  data-as : (i s : Bool) → is_inline fields.size ≡ i → nat_le fields.size segment_size ≡ s → data_by i s fields.size fields.offset heap ≡ Some (all, met)
  data-as i s p q = ap (λ i. data_by i s fields.size fields.offset heap) (sym p) ∙ (ap (λ s. data_by (is_inline fields.size) s fields.size fields.offset heap) (sym q) ∙ e)

  -- data is as long as its size field says, and there is none just where that is 0
  data-long : length all ≡ cond (is_inline fields.size) (inline_size fields.size) fields.size
  data-long = data-length heap (is_inline fields.size) (nat_le fields.size segment_size) fields.size fields.offset all met e

  pub empty-data : (size : ℕ) → size ≡ cond (is_inline fields.size) (inline_size fields.size) fields.size → size ≡ 0 → all ≡ []
  empty-data size s z = no-length all (data-long ∙ (sym s ∙ z))

  pub some-data : (size : ℕ) → size ≡ cond (is_inline fields.size) (inline_size fields.size) fields.size → size ≢ 0 → all ≢ []
  some-data size s n e = n (s ∙ (sym data-long ∙ ap length e))

  pub inline-data : 2147483648 ≤ fields.size → (all ≡ take (inline_size fields.size) (little_bytes 4 fields.offset)) × (inline_size fields.size ≤ 4) × (met ≡ [])
  inline-data l =
      let d = data-as true (nat_le fields.size segment_size) (le-leb _ _ l) refl in
      let g = guard-open (nat_le (inline_size fields.size) 4) (give (take (inline_size fields.size) (little_bytes 4 fields.offset))) heap (all, met) d in
      let p : ◌≡◌ {A = List ℕ × List Found} (take (inline_size fields.size) (little_bytes 4 fields.offset), []) (all, met) = same_Some _ _ g.1 in
      (sym (ap (λ (p : List ℕ × List Found). p.0) p), leb-true _ _ g.0, sym (ap (λ (p : List ℕ × List Found). p.1) p))

  far : fields.size < 2147483648 → is_inline fields.size ≡ false
  far l = le-false 2147483648 fields.size l

  -- data that isn't inline is as long as its size field
  pub plain-long : fields.size < 2147483648 → length all ≡ fields.size
  plain-long l = data-long ∙ ap (λ b. cond b (inline_size fields.size) fields.size) (far l)

  pub small-data : fields.size ≤ SEGMENT_SIZE → pieces_at (if_any Data fields.size fields.offset) heap ≡ Some (all, met)
  unfolding segment_size
  small-data l = data-as false true (far (omega arith)) (le-leb _ _ l)

  pub no-data : fields.size ≡ 0 → (all ≡ []) × (met ≡ [])
  no-data z = pieces-none heap all met (ap (λ s. pieces_at (if_any Data s fields.offset) heap) (sym z) ∙ small-data (omega arith))

  pub big-data : SEGMENT_SIZE < fields.size → fields.size < 2147483648 → big_at fields.size fields.offset heap ≡ Some (all, met)
  unfolding segment_size
  big-data l m = data-as false false (far m) (le-false fields.size segment_size l)

-- data that isn't inline has the size of its size field
pub some-size : (fields : ValueFields) (size : ℕ) → size ≡ cond (is_inline fields.size) (inline_size fields.size) fields.size → size ≢ 0 → fields.size < 2147483648 → 0 < fields.size
some-size fields size s n l =
    let same : size ≡ fields.size = s ∙ ap (λ b. cond b (inline_size fields.size) fields.size) (le-false 2147483648 fields.size l) in
    omega (arith, same, n)

-- data in one cell
pub record IsOne (heap : Heap) (offset size : ℕ) (all : List ℕ) (met : List Found) : Type 0 where
  pub content : List ℕ
  pub here : heap offset ≡ Some content
  pub long : size ≤ length content
  pub is : all ≡ take size content
  pub met_is : met ≡ record { kind = Data; offset = offset } ∷ []

pub one-data : (heap : Heap) (fields : ValueFields) (all : List ℕ) (met : List Found) → data_at fields heap ≡ Some (all, met) → 0 < fields.size →
    fields.size ≤ SEGMENT_SIZE → IsOne heap fields.offset fields.size all met
one-data heap fields all met e pos l = by fields.size refl (small-data heap fields all met e l)
  where
    by : (s : ℕ) → s ≡ fields.size → pieces_at (if_any Data s fields.offset) heap ≡ Some (all, met) → IsOne heap fields.offset s all met
    by zero z p = absurd (omega arith)
    by (suc n) z p =
        let o = piece-open heap (named Data (suc n) fields.offset) [] all met p in
        let r = pieces-none heap o.rest o.cells o.rest_is in
        record {
          content = o.content;
          here = o.here;
          long = o.long;
          is = o.is ∙ (ap (λ xs. take (suc n) o.content ++ xs) r.0 ∙ append-nil _);
          met_is = o.met ∙ ap (λ xs. record { kind = Data; offset = fields.offset } ∷ xs) r.1;
        }

-- data of at most 16,344 bytes that isn't inline has a cell
pub data-there : (heap : Heap) (fields : ValueFields) (all : List ℕ) (met : List Found) → data_at fields heap ≡ Some (all, met) →
    IsWrittenData heap fields → fields.size ≤ SEGMENT_SIZE → IsSome (heap fields.offset)
data-there heap fields all met e w l =
    let f = w.far (le-false 2147483648 fields.size (omega arith)) in
    let o = one-data heap fields all met e (omega (arith, f)) l in
    is-some _ o.content o.here
