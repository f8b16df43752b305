-- A value's record that was written, read back with its data.
use Rattle.std.proofs.Common.{◌≡◌, ℕ, ◌<◌, ◌≤◌, ◌==◌, nat_le, cond, Some, List, [], ◌∷◌, length, ap, ◌∙◌, arith}
use Rattle.reg_heap.specs.Paths.{Member}
use Rattle.reg_heap.specs.Heaps.{Heap}
use Rattle.reg_heap.specs.Kinds.{Found, times}
use Rattle.reg_heap.specs.Kinds.Kind.{Value}
use Rattle.reg_records.specs.RecordCells.{held}
use Rattle.reg_records.specs.KeyValues.{KeyValueRecord, value_record_at, IsPlainValue}
use Rattle.reg_records.specs.BigData.{segment_size, is_inline}
use Rattle.reg_shape.specs.Nodes.{data_at, member_at}
use Rattle.reg_shape.specs.Written.{IsWrittenData, IsWrittenValue}
use Rattle.reg_shape.proofs.Walking.InnerReadings.{data-inner}
use Rattle.reg_shape.proofs.Frame.ReadingFrame.{data-local}
use Rattle.reg_shape.proofs.Frame.KeyFrame.{agree-inner}
use Rattle.reg_shape.proofs.Frame.WrittenFrame.{data-kept}
use Rattle.reg_values.specs.Internal.ValueListParts.{Fills, HoldsData, HoldsValue}
use Rattle.reg_values.proofs.ValueListing.FoundValues.{member-made, name-told}
use Rattle.reg_values.proofs.ValueData.FilledCells.{fills-in, fills-then}

-- a change elsewhere leaves data
pub holds-kept : (h k : Heap) (size offset : ℕ) (bytes cells : List ℕ) → ((z : ℕ) → 0 < times z cells → k z ≡ h z) → HoldsData h size offset bytes cells → HoldsData k size offset bytes cells
holds-kept h k size offset bytes cells same d =
    let i = data-inner h (is_inline size) (nat_le size segment_size) size offset (bytes, d.met) d.reads in
    let a = agree-inner h k d.met i (λ z l. same z (let o = d.owns z in omega (arith, o, l))) in
    record {
      met = d.met;
      reads = data-local (is_inline size) (nat_le size segment_size) size offset h k (bytes, d.met) d.reads a;
      owns = d.owns;
      written = λ kind flags. data-kept h k (record { size = size; offset = offset; kind = kind; flags = flags }) (bytes, d.met) d.reads a (d.written kind flags);
    }

abbrev pub told : KeyValueRecord → List ℕ → Member
told value bytes = record { name = value.name; kind = value.fields.kind; bytes = bytes }

module _ (h : Heap) (cell : ℕ) (value : KeyValueRecord) (bytes : List ℕ) (met : List Found) (r : value_record_at h cell ≡ Some value)
    (p : IsPlainValue (held h cell)) (f : value.fields.flags ≡ cond (length value.name == 0) 0 1)
    (d : data_at value.fields h ≡ Some (bytes, met)) (w : IsWrittenData h value.fields) where
  pub value-reads : member_at cell h ≡ Some (told value bytes, record { kind = Value; offset = cell } ∷ met)
  value-reads =
      member-made h cell value bytes met r d
      ∙ ap (λ name. Some (record { name = name; kind = value.fields.kind; bytes = bytes }, record { kind = Value; offset = cell } ∷ met)) (name-told value.fields.flags value.name f)

  pub value-written : IsWrittenValue h cell
  value-written = record { value = value; reads = r; plain = p; flags = f; data_is = w }

-- a value in new cells
module _ (h0 h1 h2 : Heap) (cell size offset kind flags : ℕ) (cells name bytes : List ℕ) (once : (z : ℕ) →
    times z (cell ∷ cells) ≤ 1) (f1 : Fills h0 h1 cells) (d : HoldsData h1 size offset bytes cells) (f2 : Fills h1 h2 (cell ∷ []))
    (r : value_record_at h2 cell ≡ Some (record { fields = record { size = size; offset = offset; kind = kind; flags = flags }; name = name }))
    (p : IsPlainValue (held h2 cell)) (f : flags ≡ cond (length name == 0) 0 1) where
  pub put-fills : Fills h0 h2 (cell ∷ cells)
  put-fills = fills-then h0 h1 h2 (cell ∷ cells) (fills-in h0 h1 cells _ (λ z. omega arith) f1) (fills-in h1 h2 (cell ∷ []) _ (λ z. omega arith) f2)

  pub put-holds : HoldsValue h2 cell (record { name = name; kind = kind; bytes = bytes }) (cell ∷ cells)
  put-holds =
      let k = holds-kept h1 h2 size offset bytes cells (λ z l. let o = once z in f2.writes.same z (omega (arith, o, l)) (omega (arith, o, l))) d in
      let value : KeyValueRecord = record { fields = record { size = size; offset = offset; kind = kind; flags = flags }; name = name } in
      record {
        met = record { kind = Value; offset = cell } ∷ k.met;
        reads = value-reads h2 cell value bytes k.met r p f k.reads (k.written kind flags);
        owns = λ z. (let o = k.owns z in omega (arith, o));
        written = value-written h2 cell value bytes k.met r p f k.reads (k.written kind flags);
      }
