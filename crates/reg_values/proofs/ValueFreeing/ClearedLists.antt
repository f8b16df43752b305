-- A list of values freed: each value's cells in order, and then the list's own.
use Rattle.std.proofs.Common.{◌≡◌, ℕ, zero, suc, ◌+◌, ◌*◌, ◌<◌, ◌≤◌, Some, IsSome, List, [], ◌∷◌, length, drop, get_or, refl, sym, ap, ◌∙◌, subst, arith, add-one}
use Rattle.std.proofs.lemmas.Option.{same_Some}
use Rattle.reg_heap.specs.Paths.{Member}
use Rattle.reg_heap.specs.Heaps.{Heap, CellFrame, GivesUp, allocated}
use Rattle.reg_heap.specs.Kinds.{Found, times, owned}
use Rattle.reg_shape.specs.Readings.{each}
use Rattle.reg_records.specs.RecordCells.{held}
use Rattle.reg_records.specs.OffsetRows.{offset_in}
use Rattle.reg_shape.specs.Nodes.{member_at, members_at}
use Rattle.reg_values.specs.Internal.ValueListParts.{list_at, Owns, GivesUpRead}
use Rattle.reg_values.specs.ValueLists.{AreValues}
use Rattle.reg_values.proofs.ValueListing.ValueListOpening.{length-offsets}
use Rattle.reg_values.proofs.ValueListing.FoundValues.{offset-at}
use Rattle.reg_values.proofs.ValueFreeing.FrameChains.{owned-append, frame-then, frame-with, frame-none}
use Rattle.reg_values.proofs.ValueListing.ValueListFrame.{AreRead, IsFirst, opened, values-first, values-kept, list-open, list-row, list-kept}

-- so many of the values are freed, and the list and the others stand
pub record AreFreed (old now : Heap) (count offset index : ℕ) : Type 0 where
  pub members : List Member
  pub met : List Found
  pub reads : members_at count offset old ≡ Some (members, met)
  pub once : (z : ℕ) → owned z met ≤ allocated old z
  pub row : List ℕ
  pub list_met : List Found
  pub list_is : list_at count offset now ≡ Some (row, list_met)
  pub left : List Member
  pub left_met : List Found
  pub others : AreRead now (drop index row) left left_met
  pub gone : ℕ → ℕ
  pub frame : CellFrame old now gone (λ z. 0)
  pub parts : (z : ℕ) → owned z met ≡ owned z list_met + (gone z + owned z left_met)

drop-all : (row : List ℕ) → drop 0 row ≡ row
drop-all [] = refl
drop-all (x ∷ xs) = refl

drop-next : (row : List ℕ) (i : ℕ) → i < length row → drop i row ≡ get_or row i 0 ∷ drop (i + 1) row
drop-next row i l = by row i l ∙ ap (λ n. get_or row i 0 ∷ drop n row) (sym (add-one i))
  where
    by : (row : List ℕ) (i : ℕ) → i < length row → drop i row ≡ get_or row i 0 ∷ drop (suc i) row
    by [] i l = absurd (omega arith)
    by (x ∷ xs) zero l = ap (λ ys. x ∷ ys) (sym (drop-all xs))
    by (x ∷ xs) (suc i) l = by xs i (omega arith)

drop-past : (row : List ℕ) (i : ℕ) → length row ≤ i → drop i row ≡ []
drop-past [] zero l = refl
drop-past [] (suc i) l = refl
drop-past (x ∷ xs) zero l = absurd (omega arith)
drop-past (x ∷ xs) (suc i) l = drop-past xs i (omega arith)

pub none-freed : (h : Heap) (count offset : ℕ) → AreValues h count offset → AreFreed h h count offset 0
none-freed h count offset v =
    let o = opened h count offset v.members v.met v.reads v.written.each in
    record {
      members = v.members;
      met = v.met;
      reads = v.reads;
      once = v.once;
      row = o.row;
      list_met = o.list_met;
      list_is = o.list_is;
      left = v.members;
      left_met = o.value_met;
      others = subst (λ row. AreRead h row v.members o.value_met) (sym (drop-all o.row)) o.values;
      gone = λ z. 0;
      frame = frame-none h;
      parts = λ z. (let a = ap (owned z) o.met_is in omega (arith, a, owned-append z o.list_met o.value_met));
    }

module _ (h0 h : Heap) (count offset index : ℕ) (f : AreFreed h0 h count offset index) (l : index < count) where
  many : length f.row ≡ count
  many = ap length (sym (list-row h count offset f.row f.list_met f.list_is)) ∙ length-offsets count 0 (held h offset)

  pub list-here : IsSome (h offset)
  list-here = (list-open h count offset f.row f.list_met f.list_is (omega (arith, l))).here

  pub list-long : 4 * index + 4 ≤ length (held h offset)
  list-long = let o = (list-open h count offset f.row f.list_met f.list_is (omega (arith, l))).long in omega (arith, o, l)

  abbrev cell : ℕ
  cell = get_or f.row index 0

  cell-is : cell ≡ offset_in (held h offset) index
  cell-is = ap (λ r. get_or r index 0) (sym (list-row h count offset f.row f.list_met f.list_is)) ∙ offset-at count (held h offset) index l

  next : IsFirst h cell (drop (index + 1) f.row) f.left f.left_met
  next = values-first h cell (drop (index + 1) f.row) f.left f.left_met (subst (λ r. AreRead h r f.left f.left_met) (drop-next f.row index (omega (arith, many, l))) f.others)

  met-parts : (z : ℕ) → owned z f.left_met ≡ owned z next.head_met + owned z next.tail_met
  met-parts z = let a = ap (owned z) next.met_is in omega (arith, a, owned-append z next.head_met next.tail_met)

  pub next-owns : (given : ℕ) → given ≡ offset_in (held h offset) index → Owns (member_at given) h
  next-owns given e = subst (λ o. Owns (member_at o) h) (cell-is ∙ sym e) (record {
    result = next.head;
    met = next.head_met;
    reads = next.reads;
    once = λ z. (let o = f.once z in let p = f.parts z in let c = f.frame.count z in let m = met-parts z in omega (arith, o, p, c, m));
  })

  pub one-freed : (given : ℕ) → given ≡ offset_in (held h offset) index → (k : Heap) → GivesUpRead (member_at given) h k → AreFreed h0 k count offset (index + 1)
  one-freed given e k all =
      let g = subst (λ o. GivesUpRead (member_at o) h k) (e ∙ sym cell-is) all next.head next.head_met next.reads in
      record {
        members = f.members;
        met = f.met;
        reads = f.reads;
        once = f.once;
        row = f.row;
        list_met = f.list_met;
        list_is = list-kept count offset h k _ _ _ _ g f.list_is (λ z. let o = f.once z in let p = f.parts z in let c = f.frame.count z in let m = met-parts z in omega (arith, o, p, c, m));
        left = next.tail;
        left_met = next.tail_met;
        others = values-kept h k _ _ g _ _ _ (λ z. let o = f.once z in let p = f.parts z in let c = f.frame.count z in let m = met-parts z in omega (arith, o, p, c, m)) next.rest;
        gone = λ z. f.gone z + owned z next.head_met;
        frame = frame-then h0 h k (λ z. f.gone z + owned z next.head_met) (λ z. owned z next.head_met) (λ z. 0)
            (frame-with h0 h f.gone (λ z. 0) (λ z. owned z next.head_met) (λ z. f.gone z + owned z next.head_met) (λ z. owned z next.head_met) f.frame (λ z. refl) (λ z. omega arith)) g;
        parts = λ z. (let p = f.parts z in let m = met-parts z in omega (arith, p, m));
      }

module _ (h0 h : Heap) (count offset index : ℕ) (f : AreFreed h0 h count offset index) (l : count ≤ index) where
  none-left : f.left_met ≡ []
  none-left =
      let long : length f.row ≡ count = ap length (sym (list-row h count offset f.row f.list_met f.list_is)) ∙ length-offsets count 0 (held h offset) in
      let r : each member_at [] h ≡ Some (f.left, f.left_met) = ap (λ row. each member_at row h) (sym (drop-past f.row index (omega (arith, long, l)))) ∙ f.others.reads in
      ap (λ (p : List Member × List Found). p.1) (same_Some _ _ (sym r))

  same-met : (members : List Member) (met : List Found) → members_at count offset h0 ≡ Some (members, met) → f.met ≡ met
  same-met members met e = ap (λ (p : List Member × List Found). p.1) (same_Some _ _ (sym f.reads ∙ e))

  pub list-left : 0 < count → IsSome (h offset)
  list-left p = (list-open h count offset f.row f.list_met f.list_is p).here

  pub list-freed : 0 < count → (k : Heap) → GivesUp h k (offset ∷ []) → (members : List Member) (met : List Found) →
      members_at count offset h0 ≡ Some (members, met) → CellFrame h0 k (λ z. owned z met) (λ z. 0)
  list-freed p k g members met e =
      let own : (z : ℕ) → owned z met ≡ f.gone z + times z (offset ∷ []) = λ z. (
      let a = ap (owned z) (same-met members met e) in let b = ap (owned z) none-left in
      let c = ap (owned z) (list-open h count offset f.row f.list_met f.list_is p).met_is in let q = f.parts z in omega (arith, a, b, c, q)) in
      frame-then h0 h k (λ z. owned z met) (λ z. times z (offset ∷ [])) (λ z. 0)
      (frame-with h0 h f.gone (λ z. 0) (λ z. times z (offset ∷ [])) (λ z. owned z met) (λ z. times z (offset ∷ [])) f.frame own (λ z. omega arith)) g

  pub nothing-listed : count ≡ 0 → (members : List Member) (met : List Found) → members_at count offset h0 ≡ Some (members, met) → CellFrame h0 h (λ z. owned z met) (λ z. 0)
  nothing-listed n members met e =
      let r : f.list_met ≡ [] = ap (λ (p : List ℕ × List Found). p.1) (same_Some _ _ (sym f.list_is ∙ ap (λ c. list_at c offset h) n)) in
      frame-with h0 h f.gone (λ z. 0) (λ z. 0) (λ z. owned z met) (λ z. 0) f.frame
      (λ z. let a = ap (owned z) (same-met members met e) in let b = ap (owned z) none-left in let c = ap (owned z) r in let q = f.parts z in omega (arith, a, b, c, q))
      (λ z. omega arith)
