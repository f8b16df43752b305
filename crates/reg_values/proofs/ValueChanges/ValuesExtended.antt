-- Values more, at once, behind those of a list that has room for them.
use Rattle.std.proofs.Common.{◌≡◌, ℕ, ◌+◌, ◌*◌, ◌<◌, ◌≤◌, Option, Some, IsSome, List, [], ◌∷◌, ◌++◌, length, refl, sym, ap, ◌∙◌, subst, arith, unwrap_or}
use Rattle.reg_arena.proofs.Contents.CellWrites.{all-append}
use Rattle.reg_arena.specs.NewCells.{AreSizes}
use Rattle.reg_heap.specs.declared.limits.TheConstants.{VALUES_LIMIT}
use Rattle.reg_heap.specs.Paths.{Member}
use Rattle.reg_heap.specs.Heaps.{Heap, AreNew, allocated}
use Rattle.reg_heap.specs.Kinds.{Found, owned, times}
use Rattle.reg_heap.specs.Kinds.Kind.{ValueList}
use Rattle.reg_records.specs.RecordCells.{HasRoom, held}
use Rattle.reg_records.specs.OffsetRows.{offsets_at}
use Rattle.reg_shape.specs.Nodes.{members_at}
use Rattle.reg_shape.specs.Written.{AreWritten}
use Rattle.reg_values.specs.ValueLists.{Became, Makes}
use Rattle.reg_values.specs.declared.making.NewValue.{NewValue}
use Rattle.reg_values.specs.NewValues.{all_told, MayFollow}
use Rattle.reg_values.specs.Internal.ValueListParts.{Fills, HaveRoom, StandBehind}
use Rattle.reg_values.proofs.ValueData.CellSizeTotals.{makes}
use Rattle.reg_values.proofs.ValueData.FilledCells.{fills-room}
use Rattle.reg_values.proofs.ValueData.NewCellRoom.{new-room}
use Rattle.reg_values.proofs.ValueFreeing.FrameChains.{owned-append, there-one, kept-apart, frame-then, frame-with}
use Rattle.reg_values.proofs.ValueListing.ValueListFrame.{IsOpened, opened, IsRow, list-open, list-made, AreRead, values-kept, values-join, closed, closed-written}
use Rattle.reg_values.proofs.ValueChanges.OffsetRemoved.{offsets-append}
use Rattle.reg_values.proofs.ValueChanges.ValuesPlanned.{told-length}
use Rattle.reg_values.proofs.ValueChanges.ValuesFilled.{stand-read}
use Rattle.reg_values.proofs.ValueChanges.ValuesMade.{follow-names, follow-sizes, follow-apart}

-- ---- the cells that came

pub new-cells : (h0 h1 : Heap) (sizes news all out before offsets : List ℕ) → sizes ≡ news → all ≡ out → out ≡ before ++ offsets → before ≡ [] →
    AreNew h0 h1 offsets sizes → AreNew h0 h1 all news
new-cells h0 h1 sizes news all out before offsets e a o b n =
    subst (λ xs. AreNew h0 h1 xs news) (sym (a ∙ (o ∙ ap (λ xs. xs ++ offsets) b))) (subst (AreNew h0 h1 offsets) e n)

pub told-room : (h : Heap) (offset count : ℕ) (values : List NewValue) → HasRoom h offset (4 * (count + length values)) →
    HasRoom h offset (4 * (count + length (all_told values)))
told-room h offset count values r = subst (λ n. HasRoom h offset (4 * (count + n))) (sym (told-length values)) r

module _ (h0 h1 : Heap) (all sizes : List ℕ) (a : AreNew h0 h1 all sizes) where
  -- a cell that was there holds what it held
  pub there-kept : (offset : ℕ) → IsSome (h0 offset) → h1 offset ≡ h0 offset
  there-kept offset s = let o = there-one h0 offset s in kept-apart h0 h1 (λ z. 0) (λ z. times z all) a.come offset (omega (arith, o)) refl

  pub room-there : (offset n : ℕ) → HasRoom h0 offset n → HasRoom h1 offset n
  room-there offset n r =
      let same = there-kept offset r.exists in
      record { exists = subst IsSome (sym same) r.exists; enough = subst (λ (o : Option (List ℕ)). n ≤ length (unwrap_or o [])) (sym same) r.enough }

  pub cells-room : HaveRoom h1 all sizes
  cells-room = new-room h0 h1 all sizes a

  -- and is none of them
  pub list-beside : (offset : ℕ) → IsSome (h0 offset) → times offset all ≡ 0
  list-beside offset s =
      let o = there-one h0 offset s in
      let n = there-one h1 offset (subst IsSome (sym (there-kept offset s)) s) in
      let c = a.come.count offset in
      omega (arith, o, n, c)

-- ---- the list with them

module _ (h0 h1 h2 : Heap) (count offset : ℕ) (some : 0 < count) (old : List Member) (met : List Found) (e : members_at count offset h0 ≡ Some (old, met))
    (once : (z : ℕ) → owned z met ≤ allocated h0 z) (w : AreWritten h0 count offset old) (all sizes : List ℕ) (a : AreNew h0 h1 all sizes)
    (f : Fills h1 h2 (offset ∷ all)) where
  was : IsOpened h0 count offset old met
  was = opened h0 count offset old met e w.each

  row-was : IsRow h0 count offset was.row was.list_met
  row-was = list-open h0 count offset was.row was.list_met was.list_is some

  split : (z : ℕ) → owned z met ≡ times z (offset ∷ []) + owned z was.value_met
  split z = ap (owned z) was.met_is ∙ (owned-append z was.list_met was.value_met ∙ ap (λ ms. owned z ms + owned z was.value_met) row-was.met_is)

  there1 : (z : ℕ) → times z (offset ∷ []) + owned z was.value_met + times z all ≤ allocated h1 z
  there1 z = let s = split z in let o = once z in let c = a.come.count z in omega (arith, s, o, c)

  values2 : AreRead h2 was.row old was.value_met
  values2 =
      let a1 = values-kept h0 h1 _ _ a.come _ _ _ (λ z. let s = split z in let o = once z in omega (arith, s, o)) was.values in
      values-kept h1 h2 _ _ f.writes _ _ _ (λ z. let t = there1 z in omega (arith, t)) a1

  pub extend-makes : AreSizes sizes → Makes h0 h2 sizes
  extend-makes ok = makes h0 h1 h2 all sizes a ok (λ z. let c = f.writes.count z in omega (arith, c)) (λ z p. f.sizes z)

  pub extended : (members : List Member) → HasRoom h0 offset (4 * (count + length members)) → StandBehind h2 offset count members all →
      offsets_at count 0 (held h2 offset) ≡ offsets_at count 0 (held h1 offset) → MayFollow old members → count + length members ≤ VALUES_LIMIT →
      Became h0 h2 met (count + length members) offset (old ++ members)
  extended members room s front follow few =
      let n = length members in
      let r = fills-room h1 h2 (offset ∷ all) offset _ f (room-there h0 h1 all sizes a offset _ room) in
      let same = there-kept h0 h1 all sizes a offset room.exists in
      let row2 : offsets_at count 0 (held h2 offset) ≡ was.row =
      front ∙ (ap (λ (o : Option (List ℕ)). offsets_at count 0 (unwrap_or o [])) same ∙ sym row-was.is) in
      let read = list-made h2 (count + n) offset (omega (arith, some)) r.exists r.enough in
      let z : 0 + 4 * count ≡ 4 * count = omega arith in
      let parts : offsets_at (count + n) 0 (held h2 offset) ≡ was.row ++ offsets_at n (4 * count) (held h2 offset) =
      offsets-append count n 0 (held h2 offset)
      ∙ (ap (λ xs. xs ++ offsets_at n (0 + 4 * count) (held h2 offset)) row2
      ∙ ap (λ at. was.row ++ offsets_at n at (held h2 offset)) z) in
      let values = subst (λ row. AreRead h2 row (old ++ members) (was.value_met ++ s.met)) (sym parts)
      (values-join h2 was.row (offsets_at n (4 * count) (held h2 offset)) old members was.value_met s.met values2 (stand-read h2 offset count members all s)) in
      let T : ℕ → ℕ = λ z. owned z met + times z all in
      let cells = record { kind = ValueList; offset = offset } ∷ (was.value_met ++ s.met) in
      record {
        cells = cells;
        reads = closed h2 (count + n) offset _ _ _ _ read values;
        frame = frame-then h0 h1 h2 (λ z. owned z met) T (λ z. owned z cells)
            (frame-with h0 h1 _ _ (λ z. owned z met) (λ z. owned z met) T a.come (λ z. omega arith) (λ z. omega arith))
            (frame-with h1 h2 _ _ (λ z. owned z was.value_met) T (λ z. owned z cells) f.writes
            (λ z. let s = split z in omega (arith, s)) (λ z. let o = s.owns z in omega (arith, o, owned-append z was.value_met s.met)));
        written = record {
          few = few;
          none = λ z. absurd (omega (arith, z, some));
          each = closed-written h2 (count + n) offset _ _ _ _ read values;
          names = all-append _ old members w.names (follow-names members old follow);
          apart = follow-apart members old follow w.apart;
          sizes = all-append _ old members w.sizes (follow-sizes members old follow);
        };
      }
