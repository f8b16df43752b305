-- A value with other data.
use Rattle.std.proofs.Common.{◌≡◌, ℕ, ◌+◌, ◌<◌, ◌≤◌, ◌==◌, ◌&&◌, nat_le, nat_lt, cond, Bool, true, not, Option, Some, IsSome, List, [], ◌∷◌, length, is_some, refl, sym, ap, ◌∙◌, subst}
use Rattle.std.proofs.Common.{arith, unwrap_or}
use Rattle.std.specs.Prelude.{bit_and}
use Rattle.std.proofs.lemmas.Option.{same_Some}
use Rattle.std.proofs.lemmas.Bool.{and_parts, leb-true, eqb-true, ltb-true}
use Rattle.reg_heap.specs.ByteWords.{splice}
use Rattle.reg_heap.specs.Paths.{Member}
use Rattle.reg_heap.specs.Heaps.{Heap, CellFrame, Writes, AreNew, allocated}
use Rattle.reg_heap.specs.Kinds.{Found, owned, times}
use Rattle.reg_heap.specs.Kinds.Kind.{Value}
use Rattle.reg_records.specs.declared.db.TheConstants.{SEGMENT_SIZE}
use Rattle.reg_records.specs.declared.vk.ValueFields.{ValueFields}
use Rattle.reg_records.specs.RecordCells.{HasRoom, held}
use Rattle.reg_records.specs.KeyValues.{KeyValueRecord, value_record_at, IsPlainValue}
use Rattle.reg_records.specs.BigData.{segment_size, is_inline}
use Rattle.reg_shape.specs.Nodes.{data_at, letters, member_at}
use Rattle.reg_shape.specs.Written.{IsWrittenData, IsWrittenValue}
use Rattle.reg_records.proofs.KeyValueCodec.{value_record_at-same}
use Rattle.reg_shape.proofs.Walking.InnerReadings.{data-inner, member-inner}
use Rattle.reg_shape.proofs.Frame.ReadingFrame.{Agree, data-local, member-local}
use Rattle.reg_shape.proofs.Frame.WrittenFrame.{value-kept, same-held}
use Rattle.reg_values.specs.ValueLists.{KeepsSizes, Makes}
use Rattle.reg_arena.specs.NewCells.{cell_size}
use Rattle.reg_values.specs.ValueSizes.{stays, data_sizes, new_data_sizes}
use Rattle.reg_values.specs.Internal.ValueListParts.{Fills, HoldsData, Owns, OwnsBeside, GivesUpRead, BecameValue, Keeps}
use Rattle.reg_values.proofs.ValueListing.FoundValues.{member-open, name-told, record-there, is-some}
use Rattle.reg_values.proofs.ValueData.DataPieces.{le-false}
use Rattle.reg_values.proofs.ValueData.SegmentReading.{segment-is}
use Rattle.reg_values.proofs.ValueData.DataForms.{data-there}
use Rattle.reg_values.proofs.ValueFreeing.FrameChains.{times-same, frame-then, frame-with, writes-in, kept-apart, agree-apart, allocated-le, there-one, one-there}
use Rattle.reg_values.proofs.ValueFreeing.FreedRuns.{member-parts, member-data, member-owned, one-owned}
use Rattle.reg_values.proofs.ValueData.StoredData.{one-fills, one-holds}
use Rattle.reg_values.proofs.ValueData.WrittenValues.{holds-kept, value-reads, value-written}
use Rattle.reg_values.proofs.ValueData.CellSizeTotals.{makes, data-ok}

-- ---- what stays says

record Stays (h : Heap) (old : ValueFields) (size : ℕ) : Type 0 where
  large : 4 < size
  small : size ≤ SEGMENT_SIZE
  was_small : old.size ≤ SEGMENT_SIZE
  same : cell_size size ≡ length (held h old.offset) + 4

stays-open : (h : Heap) (old : ValueFields) (size : ℕ) → stays h old size ≡ true → Stays h old size
unfolding stays
stays-open h old size e =
    let a = and_parts ((nat_lt 4 size && nat_le size segment_size) && nat_le old.size segment_size) (cell_size size == length (held h old.offset) + 4) e in
    let b = and_parts (nat_lt 4 size && nat_le size segment_size) (nat_le old.size segment_size) a.0 in
    let c = and_parts (nat_lt 4 size) (nat_le size segment_size) b.0 in
    record {
      large = ltb-true _ _ c.0;
      small = subst (λ n. size ≤ n) segment-is (leb-true _ _ c.1);
      was_small = subst (λ n. old.size ≤ n) segment-is (leb-true _ _ b.1);
      same = eqb-true _ _ a.1;
    }

-- ---- a value whose record is known

module _ (h : Heap) (cell : ℕ) (w : IsWrittenValue h cell) (old : ValueFields) (name : List ℕ) (r : value_record_at h cell ≡ Some (record { fields = old; name = name })) where
  value-is : w.value ≡ record { fields = old; name = name }
  value-is = same_Some _ _ (sym w.reads ∙ r)

  pub flags-are : old.flags ≡ cond (length name == 0) 0 1
  flags-are = subst (λ (v : KeyValueRecord). v.fields.flags ≡ cond (length v.name == 0) 0 1) value-is w.flags

  pub data-written : IsWrittenData h old
  data-written = subst (λ (v : KeyValueRecord). IsWrittenData h v.fields) value-is w.data_is

  pub told-as : (m : Member) (met : List Found) → member_at cell h ≡ Some (m, met) → m.name ≡ name
  told-as m met e =
      let p = member-open h cell m met e in
      let v : p.value ≡ record { fields = old; name = name } = same_Some _ _ (sym p.reads ∙ r) in
      ap (λ (m : Member). m.name) p.is ∙ (ap (λ (v : KeyValueRecord). letters (not (bit_and v.fields.flags 1 == 0)) v.name) v ∙ name-told old.flags name flags-are)

-- what a record is with other data
abbrev pub refilled : ValueFields → List ℕ → ℕ → ℕ → ℕ → KeyValueRecord
refilled old name size offset kind = record { fields = record { size = size; offset = offset; kind = kind; flags = old.flags }; name = name }

-- the record after a change of its data
module _ (h k : Heap) (cell : ℕ) (w : IsWrittenValue h cell) (old : ValueFields) (name : List ℕ)
    (r : value_record_at h cell ≡ Some (record { fields = old; name = name })) (size offset kind : ℕ) (bytes cells : List ℕ)
    (d : HoldsData k size offset bytes cells) (s : value_record_at k cell ≡ Some (refilled old name size offset kind)) (p : IsPlainValue (held k cell)) where
  pub refilled-reads : (m : Member) (met : List Found) → member_at cell h ≡ Some (m, met) →
      member_at cell k ≡ Some (record { name = m.name; kind = kind; bytes = bytes }, record { kind = Value; offset = cell } ∷ d.met)
  refilled-reads m met e =
      value-reads k cell (refilled old name size offset kind) bytes d.met s p (flags-are h cell w old name r) d.reads (d.written kind old.flags)
      ∙ ap (λ n. Some (record { name = n; kind = kind; bytes = bytes }, record { kind = Value; offset = cell } ∷ d.met)) (sym (told-as h cell w old name r m met e))

  pub refilled-written : IsWrittenValue k cell
  refilled-written = value-written k cell (refilled old name size offset kind) bytes d.met s p (flags-are h cell w old name r) d.reads (d.written kind old.flags)

-- ---- in place

module _ (h0 h1 h2 : Heap) (cell : ℕ) (own : Owns (member_at cell) h0) (w : IsWrittenValue h0 cell) (old : ValueFields) (name : List ℕ)
    (r : value_record_at h0 cell ≡ Some (record { fields = old; name = name })) (bytes : List ℕ) (st : stays h0 old (length bytes) ≡ true) where
  st' : Stays h0 old (length bytes)
  st' = stays-open h0 old (length bytes) st

  one-met : (m : Member) (met : List Found) → member_at cell h0 ≡ Some (m, met) → (z : ℕ) → owned z met ≡ times z (old.offset ∷ []) + times z (cell ∷ [])
  one-met m met e z =
      let f = (data-written h0 cell w old name r).far in
      let d = member-data h0 cell m met e old name r in
      let s = st' in
      let small = s.was_small in
      let l = f (le-false 2147483648 old.size (omega (arith, small))) in
      let o = one-owned h0 old m.bytes _ d (omega (arith, l)) small z in
      let p = member-owned h0 cell m met e old name r z in
      omega (arith, o, p)

  pub offset-there : IsSome (h0 old.offset)
  offset-there = let o = own.once old.offset in let p = one-met own.result own.met own.reads old.offset in let t = times-same old.offset in one-there (h0 old.offset) (omega (arith, o, p, t))

  pub offset-room : HasRoom h0 old.offset (length bytes)
  offset-room = record { exists = offset-there; enough = (let s = st'.same in omega (arith, s)) }

  apart : (z : ℕ) → times z (old.offset ∷ []) + times z (cell ∷ []) ≤ 1
  apart z = let o = own.once z in let p = one-met own.result own.met own.reads z in let a = allocated-le h0 z in omega (arith, o, p, a)

  module _ (written : (offset : ℕ) → h1 offset ≡ cond (offset == old.offset) (Some (splice 0 bytes (held h0 old.offset))) (h0 offset)) (writes : Writes h0 h1 (old.offset ∷ [])) where
    f1 : Fills h0 h1 (old.offset ∷ [])
    f1 = one-fills h0 h1 old.offset bytes st'.large st'.small offset-room written writes

    cell-kept : h1 cell ≡ h0 cell
    cell-kept = let a = apart cell in let t = times-same cell in f1.writes.same cell (omega (arith, a, t)) (omega (arith, a, t))

    pub record-kept : value_record_at h1 cell ≡ Some (record { fields = old; name = name })
    record-kept = value_record_at-same h0 h1 cell cell-kept ∙ r

    pub plain-kept : IsPlainValue (held h1 cell)
    plain-kept = subst IsPlainValue (sym (same-held h0 h1 cell cell-kept)) w.plain

    module _ (kind : ℕ) (f2 : Fills h1 h2 (cell ∷ [])) (s : value_record_at h2 cell ≡ Some (refilled old name (length bytes) old.offset kind)) (p : IsPlainValue (held h2 cell)) where
      d2 : HoldsData h2 (length bytes) old.offset bytes (old.offset ∷ [])
      d2 = holds-kept h1 h2 (length bytes) old.offset bytes (old.offset ∷ []) (λ z l. let a = apart z in
          f2.writes.same z (omega (arith, a, l)) (omega (arith, a, l))) (one-holds h0 h1 old.offset bytes st'.large st'.small offset-room written writes)

      pub rewritten : (m : Member) (met : List Found) → member_at cell h0 ≡ Some (m, met) → BecameValue h0 h2 (λ z. owned z met) cell (record { name = m.name; kind = kind; bytes = bytes })
      rewritten m met e =
          let T : ℕ → ℕ = λ z. owned z met in
          record {
            cells = record { kind = Value; offset = cell } ∷ d2.met;
            reads = refilled-reads h0 h2 cell w old name r (length bytes) old.offset kind bytes (old.offset ∷ []) d2 s p m met e;
            written = refilled-written h0 h2 cell w old name r (length bytes) old.offset kind bytes (old.offset ∷ []) d2 s p;
            frame = frame-then h0 h1 h2 T T (λ z. owned z (record { kind = Value; offset = cell } ∷ d2.met))
                (writes-in h0 h1 (old.offset ∷ []) T f1.writes (λ z. let o = one-met m met e z in omega (arith, o)))
                (frame-with h1 h2 _ _ (λ z. times z (old.offset ∷ [])) T (λ z. owned z (record { kind = Value; offset = cell } ∷ d2.met)) f2.writes
                (λ z. let o = one-met m met e z in omega (arith, o)) (λ z. let o = d2.owns z in omega (arith, o)));
          }

      pub makes-none : Makes h0 h2 []
      makes-none = record {
        offsets = [];
        sizes_are = refl;
        once = λ z. omega arith;
        fresh = λ z l. absurd (omega arith);
        only = λ z e t. absurd (let a = f1.writes.count z in let b = f2.writes.count z in let c = there-one h2 z t in
            let n : allocated h0 z ≡ 0 = ap (λ (o : Option (List ℕ)). cond (is_some o) 1 0) e in omega (arith, a, b, c, n));
      }

      pub sizes-stay : KeepsSizes h0 h2
      sizes-stay = λ z e t. f2.sizes z ∙ f1.sizes z

-- ---- in new cells

module _ (h1 h2 h3 : Heap) (cell : ℕ) (cells : List ℕ) (own : OwnsBeside (member_at cell) h1 cells) (w : IsWrittenValue h1 cell) (old : ValueFields)
    (name : List ℕ) (r : value_record_at h1 cell ≡ Some (record { fields = old; name = name }))
    (f1 : Fills h1 h2 cells) where
  own-cells : (z : ℕ) → owned z own.met ≡ owned z (member-parts h1 cell own.result own.met own.reads old name r).cells + times z (cell ∷ [])
  own-cells z = member-owned h1 cell own.result own.met own.reads old name r z

  cell-apart : times cell cells ≡ 0
  cell-apart = let o = own.once cell in let p = own-cells cell in let t = times-same cell in let a = allocated-le h1 cell in omega (arith, o, p, t, a)

  cell-kept2 : h2 cell ≡ h1 cell
  cell-kept2 = f1.writes.same cell cell-apart cell-apart

  pub record-kept2 : value_record_at h2 cell ≡ Some (record { fields = old; name = name })
  record-kept2 = value_record_at-same h1 h2 cell cell-kept2 ∙ r

  pub plain-kept2 : IsPlainValue (held h2 cell)
  plain-kept2 = subst IsPlainValue (sym (same-held h1 h2 cell cell-kept2)) w.plain

  module _ (f2 : Fills h2 h3 (cell ∷ [])) where
    data-there3 : (all : List ℕ) (dmet : List Found) → data_at old h1 ≡ Some (all, dmet) →
        ((z : ℕ) → owned z dmet + times z cells + times z (cell ∷ []) ≤ allocated h1 z) → data_at old h3 ≡ Some (all, dmet)
    data-there3 all dmet e l =
        let i = data-inner h1 (is_inline old.size) (nat_le old.size segment_size) old.size old.offset (all, dmet) e in
        let k = data-local (is_inline old.size) (nat_le old.size segment_size) old.size old.offset h1 h2 (all, dmet) e
        (agree-apart h1 h2 _ _ f1.writes dmet i (λ z. let a = l z in omega (arith, a))) in
        data-local (is_inline old.size) (nat_le old.size segment_size) old.size old.offset h2 h3 (all, dmet) k
        (agree-apart h2 h3 _ _ f2.writes dmet i (λ z. let a = l z in let c = f1.writes.count z in omega (arith, a, c)))

    room1 : (z : ℕ) → owned z (member-parts h1 cell own.result own.met own.reads old name r).cells + times z cells + times z (cell ∷ []) ≤ allocated h1 z
    room1 z = let o = own.once z in let p = own-cells z in omega (arith, o, p)

    pub data-owns3 : Owns (data_at old) h3
    data-owns3 = record {
      result = own.result.bytes;
      met = (member-parts h1 cell own.result own.met own.reads old name r).cells;
      reads = data-there3 own.result.bytes _ (member-data h1 cell own.result own.met own.reads old name r) room1;
      once = λ z. (let a = room1 z in let c = f1.writes.count z in let d = f2.writes.count z in omega (arith, a, c, d));
    }

    module _ (h4 : Heap) (g : GivesUpRead (data_at old) h3 h4) where
      pub data-gone : CellFrame h3 h4 (λ z. owned z (member-parts h1 cell own.result own.met own.reads old name r).cells) (λ z. 0)
      data-gone = g own.result.bytes _ (data-there3 own.result.bytes _ (member-data h1 cell own.result own.met own.reads old name r) room1)

      cell-kept4 : h4 cell ≡ h3 cell
      cell-kept4 = let a = room1 cell in let t = times-same cell in let b = allocated-le h1 cell in data-gone.same cell (omega (arith, a, t, b)) refl

      cells-kept4 : (z : ℕ) → 0 < times z cells → h4 z ≡ h3 z
      cells-kept4 z l = let a = room1 z in let b = allocated-le h1 z in data-gone.same z (omega (arith, a, l, b)) refl

      pub keeps-cells : Keeps h1 h4 cells
      keeps-cells = record {
        fewer = λ z. (let a = f1.writes.count z in let b = f2.writes.count z in let c = data-gone.count z in omega (arith, a, b, c));
        sizes = λ z l. ap (λ (o : Option (List ℕ)). length (unwrap_or o [])) (cells-kept4 z l) ∙ (f2.sizes z ∙ f1.sizes z);
      }

      module _ (size offset kind : ℕ) (bytes : List ℕ) (d : HoldsData h2 size offset bytes cells)
          (s : value_record_at h3 cell ≡ Some (refilled old name size offset kind)) (p : IsPlainValue (held h3 cell)) where
        d4 : HoldsData h4 size offset bytes cells
        d4 = holds-kept h3 h4 size offset bytes cells cells-kept4 (holds-kept h2 h3 size offset bytes cells (λ z l. let a = room1 z in
            let b = allocated-le h1 z in f2.writes.same z (omega (arith, a, l, b)) (omega (arith, a, l, b))) d)

        s4 : value_record_at h4 cell ≡ Some (refilled old name size offset kind)
        s4 = value_record_at-same h3 h4 cell cell-kept4 ∙ s

        p4 : IsPlainValue (held h4 cell)
        p4 = subst IsPlainValue (sym (same-held h3 h4 cell cell-kept4)) p

        pub exchanged : (m : Member) (met : List Found) → member_at cell h1 ≡ Some (m, met) →
            BecameValue h1 h4 (λ z. owned z met + times z cells) cell (record { name = m.name; kind = kind; bytes = bytes })
        exchanged m met e =
            let q : (z : ℕ) → owned z own.met ≡ owned z met = λ z. ap (λ (p : Member × List Found). owned z p.1) (same_Some _ _ (sym own.reads ∙ e)) in
            let T : ℕ → ℕ = λ z. owned z met + times z cells in
            let last : ℕ → ℕ = λ z. owned z (record { kind = Value; offset = cell } ∷ d4.met) in
            record {
              cells = record { kind = Value; offset = cell } ∷ d4.met;
              reads = refilled-reads h1 h4 cell w old name r size offset kind bytes cells d4 s4 p4 m met e;
              written = refilled-written h1 h4 cell w old name r size offset kind bytes cells d4 s4 p4;
              frame = frame-then h1 h2 h4 T T last (writes-in h1 h2 cells T f1.writes (λ z. omega arith))
                  (frame-then h2 h3 h4 T T last (writes-in h2 h3 (cell ∷ []) T f2.writes (λ z. let o = own-cells z in let x = q z in omega (arith, o, x)))
                  (frame-with h3 h4 _ _ (λ z. times z (cell ∷ []) + times z cells) T last data-gone (λ z. let o = own-cells z in let x = q z in
                  omega (arith, o, x)) (λ z. let o = d4.owns z in omega (arith, o))));
            }

-- ---- before that, cells that are new

module _ (h0 h1 : Heap) (cell : ℕ) (cells sizes : List ℕ) (own : Owns (member_at cell) h0) (w : IsWrittenValue h0 cell) (a : AreNew h0 h1 cells sizes) where
  met-kept : (m : Member) (met : List Found) → member_at cell h0 ≡ Some (m, met) → ((z : ℕ) → owned z met ≤ allocated h0 z) → Agree h0 h1 met
  met-kept m met e o = agree-apart h0 h1 _ _ a.come met (member-inner h0 cell (m, met) e) (λ z. let x = o z in omega (arith, x))

  pub owns-new : OwnsBeside (member_at cell) h1 cells
  owns-new = record {
    result = own.result;
    met = own.met;
    reads = member-local cell h0 h1 (own.result, own.met) own.reads (met-kept own.result own.met own.reads own.once);
    once = λ z. (let o = own.once z in let c = a.come.count z in omega (arith, o, c));
  }

  pub written-new : IsWrittenValue h1 cell
  written-new = value-kept h0 h1 cell (own.result, own.met) own.reads (met-kept own.result own.met own.reads own.once) w

  pub record-new : (v : KeyValueRecord) → value_record_at h0 cell ≡ Some v → value_record_at h1 cell ≡ Some v
  record-new v r =
      let s = there-one h0 cell (record-there h0 cell (is-some _ v r)) in
      value_record_at-same h0 h1 cell (kept-apart h0 h1 _ _ a.come cell (omega (arith, s)) refl) ∙ r

  pub exchanged-new : (h4 : Heap) (m m2 : Member) (met : List Found) → member_at cell h0 ≡ Some (m, met) →
      ((n : Member) (ns : List Found) → member_at cell h1 ≡ Some (n, ns) →
      BecameValue h1 h4 (λ z. owned z ns + times z cells) cell (record { name = n.name; kind = m2.kind; bytes = m2.bytes })) →
      BecameValue h0 h4 (λ z. owned z met) cell (record { name = m.name; kind = m2.kind; bytes = m2.bytes })
  exchanged-new h4 m m2 met e f =
      let once : (z : ℕ) → owned z met ≤ allocated h0 z = λ z. let q = ap (λ (p : Member × List Found). owned z p.1) (same_Some _ _ (sym own.reads ∙ e)) in let o = own.once z in omega (arith, q, o) in
      let b = f m met (member-local cell h0 h1 (m, met) e (met-kept m met e once)) in
      record {
        cells = b.cells;
        reads = b.reads;
        written = b.written;
        frame = frame-then h0 h1 h4 (λ z. owned z met) (λ z. owned z met + times z cells) (λ z. owned z b.cells)
            (frame-with h0 h1 _ _ (λ z. owned z met) (λ z. owned z met) (λ z. owned z met + times z cells) a.come (λ z. omega arith) (λ z. omega arith)) b.frame;
      }

pub made-new : (h0 h1 h4 : Heap) (cells sizes : List ℕ) (size : ℕ) → AreNew h0 h1 cells sizes → sizes ≡ data_sizes size → Keeps h1 h4 cells → Makes h0 h4 (data_sizes size)
made-new h0 h1 h4 cells sizes size a e k = makes h0 h1 h4 cells (data_sizes size) (subst (AreNew h0 h1 cells) e a) (data-ok size) k.fewer k.sizes

-- ---- the sizes

pub replace-sizes : (h : Heap) (cell size : ℕ) (v : KeyValueRecord) (b : Bool) → value_record_at h cell ≡ Some v → stays h v.fields size ≡ b →
    new_data_sizes h size (value_record_at h cell) ≡ cond b [] (data_sizes size)
replace-sizes h cell size v b r s = ap (new_data_sizes h size) r ∙ ap (λ b. cond b [] (data_sizes size)) s

-- the data's one cell is there
pub old-there : (h : Heap) (cell : ℕ) (own : Owns (member_at cell) h) (w : IsWrittenValue h cell) (old : ValueFields) (name : List ℕ) →
    value_record_at h cell ≡ Some (record { fields = old; name = name }) → old.size ≤ SEGMENT_SIZE → IsSome (h old.offset)
old-there h cell own w old name r l = data-there h old own.result.bytes _ (member-data h cell own.result own.met own.reads old name r) (data-written h cell w old name r) l

pub new-cells : (h0 h1 : Heap) (os all ss sizes : List ℕ) → AreNew h0 h1 os ss → all ≡ os → ss ≡ sizes → AreNew h0 h1 all sizes
new-cells h0 h1 os all ss sizes a e p = subst (λ xs. AreNew h0 h1 xs sizes) (sym e) (subst (AreNew h0 h1 os) p a)
