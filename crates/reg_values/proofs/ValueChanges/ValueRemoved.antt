-- A value taken out of a list.
use Rattle.std.proofs.Common.{◌≡◌, ℕ, zero, suc, ◌+◌, ◌<◌, ◌≤◌, Some, List, [], ◌∷◌, ◌++◌, length, take, drop, get_or, refl, sym, ap, ◌∙◌, subst, arith, add-one, true, length-take}
use Rattle.std.specs.List.{AllByRecursion}
use Rattle.reg_arena.proofs.Contents.CellWrites.{all-append}
use Rattle.reg_names.specs.Names.{is_value_name}
use Rattle.reg_heap.specs.declared.limits.TheConstants.{NONE, DATA_LIMIT}
use Rattle.reg_heap.specs.Paths.{Member}
use Rattle.reg_heap.specs.Heaps.{Heap, CellFrame, allocated}
use Rattle.reg_heap.specs.Kinds.{Found, owned}
use Rattle.reg_records.specs.RecordCells.{held}
use Rattle.reg_records.specs.OffsetRows.{offset_in}
use Rattle.reg_shape.specs.Nodes.{member_at, members_at}
use Rattle.reg_shape.specs.Written.{Pairwise, AreWritten}
use Rattle.reg_shape.proofs.Frame.ReadingFrame.{all-front, all-back, member-local}
use Rattle.reg_values.specs.Internal.ValueListParts.{list_at, Owns, GivesUpRead, BecameList}
use Rattle.reg_values.specs.ValueLists.{Became}
use Rattle.reg_values.proofs.ValueListing.ValueListOpening.{length-offsets, each-length}
use Rattle.reg_values.proofs.ValueListing.FoundValues.{offset-at}
use Rattle.reg_values.proofs.ValueFreeing.FrameChains.{owned-append, frame-then, frame-with, allocated-le, agree-apart}
use Rattle.reg_values.proofs.ValueListing.ValueListFrame.{opened, AreRead, IsFirst, values-split, values-first, values-join, values-kept, closed, closed-written, list-row, list-kept}
use Rattle.reg_values.proofs.ValueListing.NamedValues.{Apart, without-here, pairs-without}

pub row-parts : (row : List ℕ) (i : ℕ) → i < length row → row ≡ take i row ++ get_or row i 0 ∷ drop (i + 1) row
row-parts row i l = by row i l ∙ ap (λ n. take i row ++ get_or row i 0 ∷ drop n row) (sym (add-one i))
  where
    by : (row : List ℕ) (i : ℕ) → i < length row → row ≡ take i row ++ get_or row i 0 ∷ drop (suc i) row
    by [] i l = absurd (omega arith)
    by (x ∷ xs) zero l = refl
    by (x ∷ xs) (suc i) l = ap (λ ys. x ∷ ys) (by xs i (omega arith))

-- a list at one of its values
pub record IsAt (heap : Heap) (count offset : ℕ) (members : List Member) (met : List Found) (index : ℕ) : Type 0 where
  pub row : List ℕ
  pub list_met : List Found
  pub list_is : list_at count offset heap ≡ Some (row, list_met)
  pub many : length row ≡ count
  pub cell : ℕ
  pub cell_is : cell ≡ offset_in (held heap offset) index
  pub row_is : row ≡ take index row ++ cell ∷ drop (index + 1) row
  pub front : List Member
  pub front_met : List Found
  pub fronts : AreRead heap (take index row) front front_met
  pub as_many : length front ≡ index
  pub rest : List Member
  pub rest_met : List Found
  pub first : IsFirst heap cell (drop (index + 1) row) rest rest_met
  pub is : members ≡ front ++ first.head ∷ first.tail
  pub owned_are : (z : ℕ) → owned z met ≡ owned z list_met + (owned z front_met + (owned z first.head_met + owned z first.tail_met))

pub at-index : (heap : Heap) (count offset : ℕ) (members : List Member) (met : List Found) (index : ℕ) →
    members_at count offset heap ≡ Some (members, met) → AreWritten heap count offset members → index < count → IsAt heap count offset members met index
at-index heap count offset members met index e w l =
    let o = opened heap count offset members met e w.each in
    let row_is = list-row heap count offset o.row o.list_met o.list_is in
    let many : length o.row ≡ count = ap length (sym row_is) ∙ length-offsets count 0 (held heap offset) in
    let c : ℕ = get_or o.row index 0 in
    let parts = row-parts o.row index (omega (arith, many, l)) in
    let s = values-split heap (take index o.row) (c ∷ drop (index + 1) o.row) members o.value_met (subst (λ r. AreRead heap r members o.value_met) parts o.values) in
    let f = values-first heap c (drop (index + 1) o.row) s.back s.back_met s.second in
    let n = each-length heap (take index o.row) s.front s.front_met s.first.reads in
    record {
      row = o.row;
      list_met = o.list_met;
      list_is = o.list_is;
      many = many;
      cell = c;
      cell_is = ap (λ r. get_or r index 0) (sym row_is) ∙ offset-at count (held heap offset) index l;
      row_is = parts;
      front = s.front;
      front_met = s.front_met;
      fronts = s.first;
      as_many = omega (arith, n, length-take index o.row, many, l);
      rest = s.back;
      rest_met = s.back_met;
      first = f;
      is = s.is ∙ ap (λ ms. s.front ++ ms) f.is;
      owned_are = λ z. (let a = ap (owned z) o.met_is in let b = ap (owned z) s.met_is in let d = ap (owned z) f.met_is in
          omega (arith, a, b, d, owned-append z o.list_met o.value_met, owned-append z s.front_met s.back_met, owned-append z f.head_met f.tail_met));
    }

-- ---- removing

module _ (h : Heap) (count offset : ℕ) (members : List Member) (met : List Found) (index : ℕ) (e : members_at count offset h ≡ Some (members, met)) (once : (z : ℕ) → owned z met ≤ allocated h z)
    (w : AreWritten h count offset members) (a : IsAt h count offset members met index) where
  -- the list alone has its cells
  pub list-owns : Owns (list_at count offset) h
  list-owns = record { result = a.row; met = a.list_met; reads = a.list_is; once = λ z. (let o = once z in let p = a.owned_are z in omega (arith, o, p)) }

  module _ (h1 : Heap) (count1 offset1 : ℕ) (t : BecameList h h1 (λ z. owned z a.list_met) count1 offset1 (take index a.row ++ drop (index + 1) a.row)) where
    pub item-kept : member_at a.cell h1 ≡ Some (a.first.head, a.first.head_met)
    item-kept =
        member-local a.cell h h1 (a.first.head, a.first.head_met) a.first.reads
        (agree-apart h h1 _ _ t.frame a.first.head_met a.first.inner (λ z. let o = once z in let p = a.owned_are z in omega (arith, o, p)))

    pub item-owns : Owns (member_at a.cell) h1
    item-owns = record {
      result = a.first.head;
      met = a.first.head_met;
      reads = item-kept;
      once = λ z. (let o = once z in let p = a.owned_are z in let c = t.frame.count z in omega (arith, o, p, c));
    }

    module _ (h2 : Heap) (g : GivesUpRead (member_at a.cell) h1 h2) where
      gone : CellFrame h1 h2 (λ z. owned z a.first.head_met) (λ z. 0)
      gone = g a.first.head a.first.head_met item-kept

      values2 : AreRead h2 (take index a.row ++ drop (index + 1) a.row) (a.front ++ a.first.tail) (a.front_met ++ a.first.tail_met)
      values2 =
          let k = values-join h (take index a.row) (drop (index + 1) a.row) a.front a.first.tail a.front_met a.first.tail_met a.fronts a.first.rest in
          let k1 = values-kept h h1 _ _ t.frame _ _ _ (λ z. let o = once z in let p = a.owned_are z in omega (arith, o, p, owned-append z a.front_met a.first.tail_met)) k in
          values-kept h1 h2 _ _ gone _ _ _ (λ z. let o = once z in let p = a.owned_are z in let c = t.frame.count z in omega (arith, o, p, c, owned-append z a.front_met a.first.tail_met)) k1

      list2 : list_at count1 offset1 h2 ≡ Some (take index a.row ++ drop (index + 1) a.row, t.cells)
      list2 = list-kept count1 offset1 h1 h2 _ _ _ _ gone t.reads (λ z. let o = once z in let p = a.owned_are z in let c = t.frame.count z in let x = allocated-le h1 z in omega (arith, o, p, c, x))

      pub removed : count1 + 1 ≡ count → (count1 ≡ 0 → offset1 ≡ NONE) → Became h h2 met count1 offset1 (take index members ++ drop (index + 1) members)
      removed less none =
          let ms = a.is in
          let left : take index members ++ drop (index + 1) members ≡ a.front ++ a.first.tail =
          ap (λ (ms : List Member). take index ms ++ drop (index + 1) ms) ms ∙ without-here a.front a.first.head a.first.tail index a.as_many in
          let names = subst (AllByRecursion (λ (m : Member). is_value_name m.name ≡ true)) ms w.names in
          let sizes = subst (AllByRecursion (λ (m : Member). length m.bytes ≤ DATA_LIMIT)) ms w.sizes in
          let few = w.few in
          subst (Became h h2 met count1 offset1) (sym left) (record {
            cells = t.cells ++ (a.front_met ++ a.first.tail_met);
            reads = closed h2 count1 offset1 _ _ t.cells _ list2 values2;
            frame = frame-then h h1 h2 (λ z. owned z met)
                (λ z. owned z t.cells + (owned z a.front_met + (owned z a.first.head_met + owned z a.first.tail_met)))
                (λ z. owned z (t.cells ++ (a.front_met ++ a.first.tail_met)))
                (frame-with h h1 _ _ (λ z. owned z a.front_met + (owned z a.first.head_met + owned z a.first.tail_met)) _ _ t.frame (λ z. a.owned_are z) (λ z. refl))
                (frame-with h1 h2 _ _ (λ z. owned z (t.cells ++ (a.front_met ++ a.first.tail_met))) _ _ gone
                (λ z. omega (arith, owned-append z t.cells (a.front_met ++ a.first.tail_met), owned-append z a.front_met a.first.tail_met))
                (λ z. omega arith));
            written = record {
              few = omega (arith, few, less);
              none = none;
              each = closed-written h2 count1 offset1 _ _ t.cells _ list2 values2;
              names = all-append _ a.front a.first.tail (all-front _ a.front (a.first.head ∷ a.first.tail) names) (all-back _ a.front (a.first.head ∷ a.first.tail) names).1;
              apart = pairs-without a.front a.first.head a.first.tail (subst (Pairwise Apart) ms w.apart);
              sizes = all-append _ a.front a.first.tail (all-front _ a.front (a.first.head ∷ a.first.tail) sizes) (all-back _ a.front (a.first.head ∷ a.first.tail) sizes).1;
            };
          })
