-- Lists of values: in parts, put together, and left alone by a change elsewhere.
use Rattle.std.proofs.Common.{◌≡◌, ℕ, zero, suc, ◌+◌, ◌*◌, ◌<◌, ◌≤◌, Some, IsSome, List, [], ◌∷◌, ◌++◌, length, refl, sym, ap, ◌∙◌, subst, arith, append_assoc}
use Rattle.std.specs.List.{AllByRecursion}
use Rattle.std.proofs.lemmas.Option.{same_Some}
use Rattle.std.proofs.lemmas.List.{append-nil}
use Rattle.reg_arena.proofs.Contents.CellWrites.{all-append}
use Rattle.reg_heap.specs.Paths.{Member}
use Rattle.reg_heap.specs.Heaps.{Heap, CellFrame, allocated}
use Rattle.reg_heap.specs.Kinds.{Found, owned}
use Rattle.reg_heap.specs.Kinds.Kind.{ValueList}
use Rattle.reg_shape.specs.Readings.{◌>>=◌, give, given, cell, each}
use Rattle.reg_shape.proofs.Walking.ReadingParts.{bind-open, bind-made, each-open, cell-made, given-made}
use Rattle.reg_records.specs.RecordCells.{held}
use Rattle.reg_records.specs.OffsetRows.{row_in, offsets_at}
use Rattle.reg_shape.specs.Nodes.{member_at, members_at}
use Rattle.reg_shape.specs.Written.{IsWrittenValue}
use Rattle.reg_shape.proofs.Walking.ReadingWalks.{row-open}
use Rattle.reg_shape.proofs.Walking.InnerReadings.{AreInner, members-inner}
use Rattle.reg_shape.proofs.Frame.ReadingFrame.{all-front, all-back, member-local, eaches, row-local}
use Rattle.reg_shape.proofs.Frame.WrittenFrame.{row-is, each-kept}
use Rattle.reg_values.specs.Internal.ValueListParts.{list_at}
use Rattle.reg_values.proofs.ValueListing.FoundValues.{is-some, held-is, here-held, row-long, row-in}
use Rattle.reg_values.proofs.ValueFreeing.FrameChains.{agree-apart}

-- ---- the list itself

pub record IsRow (heap : Heap) (count offset : ℕ) (row : List ℕ) (met : List Found) : Type 0 where
  pub here : IsSome (heap offset)
  pub long : 4 * count ≤ length (held heap offset)
  pub is : row ≡ offsets_at count 0 (held heap offset)
  pub met_is : met ≡ record { kind = ValueList; offset = offset } ∷ []

pub list-open : (heap : Heap) (count offset : ℕ) (row : List ℕ) (met : List Found) → list_at count offset heap ≡ Some (row, met) → 0 < count → IsRow heap count offset row met
list-open heap zero offset row met e l = absurd (omega arith)
list-open heap (suc n) offset row met e l =
    let r = row-open heap ValueList (suc n) offset row met e in
    let h : held heap offset ≡ r.content = held-is heap offset r.content r.here in
    let long = row-long (suc n) r.content row r.row_is in
    record {
      here = is-some _ r.content r.here;
      long = subst (λ (c : List ℕ). 4 * suc n ≤ length c) (sym h) long;
      is = sym (ap (offsets_at (suc n) 0) h ∙ row-is (suc n) r.content row r.row_is);
      met_is = r.met;
    }

pub list-made : (heap : Heap) (count offset : ℕ) → 0 < count → IsSome (heap offset) → 4 * count ≤ length (held heap offset) →
    list_at count offset heap ≡ Some (offsets_at count 0 (held heap offset), record { kind = ValueList; offset = offset } ∷ [])
list-made heap zero offset p s l = absurd (omega arith)
list-made heap (suc n) offset p s l =
    bind-made (cell ValueList offset) (λ content. given (row_in (suc n) content)) heap (held heap offset)
    (record { kind = ValueList; offset = offset } ∷ []) (offsets_at (suc n) 0 (held heap offset), [])
    (cell-made ValueList offset heap _ (here-held heap offset s)) (given-made _ (offsets_at (suc n) 0 (held heap offset)) heap
    (row-in (suc n) (held heap offset) l))

pub list-row : (heap : Heap) (count offset : ℕ) (row : List ℕ) (met : List Found) → list_at count offset heap ≡ Some (row, met) → offsets_at count 0 (held heap offset) ≡ row
unfolding offsets_at
list-row heap zero offset row met e = ap (λ (p : List ℕ × List Found). p.0) (same_Some _ _ e)
list-row heap (suc n) offset row met e = sym (list-open heap (suc n) offset row met e (omega arith)).is

-- a change elsewhere leaves it
pub list-kept : (count offset : ℕ) (h k : Heap) (f g : ℕ → ℕ) (row : List ℕ) (met : List Found) → CellFrame h k f g →
    list_at count offset h ≡ Some (row, met) → ((z : ℕ) → owned z met + f z ≤ allocated h z) → list_at count offset k ≡ Some (row, met)
list-kept zero offset h k f g row met s e l = e
list-kept (suc n) offset h k f g row met s e l =
    let r = list-open h (suc n) offset row met e (omega arith) in
    let i : AreInner met = subst AreInner (sym r.met_is) (refl, tt) in
    row-local ValueList (suc n) offset h k (row, met) e (agree-apart h k f g s met i l)

-- ---- the values of a row

-- they read so, and are as they are written
pub record AreRead (heap : Heap) (row : List ℕ) (members : List Member) (met : List Found) : Type 0 where
  pub reads : each member_at row heap ≡ Some (members, met)
  pub written : AllByRecursion (IsWrittenValue heap) row
  pub inner : AreInner met

pub record AreSplit (heap : Heap) (xs ys : List ℕ) (members : List Member) (met : List Found) : Type 0 where
  pub front : List Member
  pub front_met : List Found
  pub back : List Member
  pub back_met : List Found
  pub first : AreRead heap xs front front_met
  pub second : AreRead heap ys back back_met
  pub is : members ≡ front ++ back
  pub met_is : met ≡ front_met ++ back_met

pub each-cons : (heap : Heap) (x : ℕ) (xs : List ℕ) (m : Member) (zs : List Found) (ms : List Member) (qs : List Found) →
    member_at x heap ≡ Some (m, zs) → each member_at xs heap ≡ Some (ms, qs) → each member_at (x ∷ xs) heap ≡ Some (m ∷ ms, zs ++ qs)
each-cons heap x xs m zs ms qs a b =
    let then : ◌>>=◌ (each member_at xs) (λ ys. give (m ∷ ys)) heap ≡ Some (m ∷ ms, qs ++ []) = bind-made (each member_at xs) (λ ys. give (m ∷ ys)) heap ms qs (m ∷ ms, []) b refl in
    bind-made (member_at x) (λ y. each member_at xs >>= (λ ys. give (y ∷ ys))) heap m zs (m ∷ ms, qs ++ []) a then ∙ ap (λ qs. Some (m ∷ ms, zs ++ qs)) (append-nil qs)

each-split : (heap : Heap) (xs ys : List ℕ) (members : List Member) (met : List Found) → each member_at (xs ++ ys) heap ≡ Some (members, met)
    → (p : (List Member × List Found) × (List Member × List Found)) × (each member_at xs heap ≡ Some p.0) × (each member_at ys heap ≡ Some p.1) × (members ≡ p.0.0 ++ p.1.0) × (met ≡ p.0.1 ++ p.1.1)
each-split heap [] ys members met e = ((([], []), (members, met)), refl, e, refl, refl)
each-split heap (x ∷ xs) ys members met e =
    let o = each-open member_at heap x (xs ++ ys) members met e in
    let s = each-split heap xs ys o.tail o.tail_cells o.tail_is in (
      ((o.head ∷ s.0.0.0, o.head_cells ++ s.0.0.1), s.0.1),
      each-cons heap x xs o.head o.head_cells s.0.0.0 s.0.0.1 o.head_is s.1,
      s.2,
      sym o.result ∙ ap (λ ms. o.head ∷ ms) s.3,
      sym o.all ∙ (ap (λ zs. o.head_cells ++ zs) s.4 ∙ sym (append_assoc o.head_cells s.0.0.1 s.0.1.1)),
    )

each-join : (heap : Heap) (xs ys : List ℕ) (ms ns : List Member) (zs qs : List Found) → each member_at xs heap ≡ Some (ms, zs) →
    each member_at ys heap ≡ Some (ns, qs) → each member_at (xs ++ ys) heap ≡ Some (ms ++ ns, zs ++ qs)
each-join heap [] ys ms ns zs qs a b =
    let p : ◌≡◌ {A = List Member × List Found} ([], []) (ms, zs) = same_Some _ _ a in
    b ∙ ap (λ (p : List Member × List Found). Some (p.0 ++ ns, p.1 ++ qs)) p
each-join heap (x ∷ xs) ys ms ns zs qs a b =
    let o = each-open member_at heap x xs ms zs a in
    each-cons heap x (xs ++ ys) o.head o.head_cells (o.tail ++ ns) (o.tail_cells ++ qs) o.head_is (each-join heap xs ys o.tail ns o.tail_cells qs o.tail_is b)
    ∙ ap (λ zs. Some (o.head ∷ (o.tail ++ ns), zs)) (sym (append_assoc o.head_cells o.tail_cells qs) ∙ ap (λ zs. zs ++ qs) o.all)
    ∙ ap (λ ms. Some (ms ++ ns, zs ++ qs)) o.result

pub values-split : (heap : Heap) (xs ys : List ℕ) (members : List Member) (met : List Found) → AreRead heap (xs ++ ys) members met → AreSplit heap xs ys members met
values-split heap xs ys members met r =
    let s = each-split heap xs ys members met r.reads in
    let i = subst AreInner s.4 r.inner in
    record {
      front = s.0.0.0;
      front_met = s.0.0.1;
      back = s.0.1.0;
      back_met = s.0.1.1;
      first = record { reads = s.1; written = all-front (IsWrittenValue heap) xs ys r.written; inner = all-front _ s.0.0.1 s.0.1.1 i };
      second = record { reads = s.2; written = all-back (IsWrittenValue heap) xs ys r.written; inner = all-back _ s.0.0.1 s.0.1.1 i };
      is = s.3;
      met_is = s.4;
    }

pub values-join : (heap : Heap) (xs ys : List ℕ) (ms ns : List Member) (zs qs : List Found) → AreRead heap xs ms zs → AreRead heap ys ns qs → AreRead heap (xs ++ ys) (ms ++ ns) (zs ++ qs)
values-join heap xs ys ms ns zs qs a b = record {
  reads = each-join heap xs ys ms ns zs qs a.reads b.reads;
  written = all-append (IsWrittenValue heap) xs ys a.written b.written;
  inner = all-append _ zs qs a.inner b.inner;
}

pub values-one : (heap : Heap) (x : ℕ) (m : Member) (zs : List Found) → member_at x heap ≡ Some (m, zs) → IsWrittenValue heap x → AreInner zs → AreRead heap (x ∷ []) (m ∷ []) zs
values-one heap x m zs e w i =
    record { reads = each-cons heap x [] m zs [] [] e refl ∙ ap (λ zs. Some (m ∷ [], zs)) (append-nil zs); written = (w, tt); inner = i }

pub record IsFirst (heap : Heap) (x : ℕ) (xs : List ℕ) (members : List Member) (met : List Found) : Type 0 where
  pub head : Member
  pub head_met : List Found
  pub tail : List Member
  pub tail_met : List Found
  pub reads : member_at x heap ≡ Some (head, head_met)
  pub written : IsWrittenValue heap x
  pub inner : AreInner head_met
  pub rest : AreRead heap xs tail tail_met
  pub is : members ≡ head ∷ tail
  pub met_is : met ≡ head_met ++ tail_met

pub values-first : (heap : Heap) (x : ℕ) (xs : List ℕ) (members : List Member) (met : List Found) → AreRead heap (x ∷ xs) members met → IsFirst heap x xs members met
values-first heap x xs members met r =
    let o = each-open member_at heap x xs members met r.reads in
    let i = subst AreInner (sym o.all) r.inner in
    record {
      head = o.head;
      head_met = o.head_cells;
      tail = o.tail;
      tail_met = o.tail_cells;
      reads = o.head_is;
      written = r.written.0;
      inner = all-front _ o.head_cells o.tail_cells i;
      rest = record { reads = o.tail_is; written = r.written.1; inner = all-back _ o.head_cells o.tail_cells i };
      is = sym o.result;
      met_is = sym o.all;
    }

-- a change elsewhere leaves them
pub values-kept : (h k : Heap) (f g : ℕ → ℕ) → CellFrame h k f g → (row : List ℕ) (members : List Member) (met : List Found) →
    ((z : ℕ) → owned z met + f z ≤ allocated h z) → AreRead h row members met → AreRead k row members met
values-kept h k f g s row members met l r =
    let a = agree-apart h k f g s met r.inner l in
    record { reads = eaches member_at member-local row h k (members, met) r.reads a; written = each-kept h k row (members, met) r.reads a r.written; inner = r.inner }

-- ---- a list with its values

pub record IsOpened (heap : Heap) (count offset : ℕ) (members : List Member) (met : List Found) : Type 0 where
  pub row : List ℕ
  pub list_met : List Found
  pub list_is : list_at count offset heap ≡ Some (row, list_met)
  pub value_met : List Found
  pub values : AreRead heap row members value_met
  pub met_is : met ≡ list_met ++ value_met

by-list : (heap : Heap) (count offset : ℕ) → members_at count offset heap ≡ ◌>>=◌ (list_at count offset) (λ row. each member_at row) heap
by-list heap zero offset = refl
by-list heap (suc n) offset = refl

pub opened : (heap : Heap) (count offset : ℕ) (members : List Member) (met : List Found) → members_at count offset heap ≡ Some (members, met) →
    AllByRecursion (IsWrittenValue heap) (offsets_at count 0 (held heap offset)) → IsOpened heap count offset members met
opened heap count offset members met e w =
    let o = bind-open (list_at count offset) (λ row. each member_at row) heap (members, met) (sym (by-list heap count offset) ∙ e) in
    let row = list-row heap count offset o.first o.before o.first_is in
    let i = subst AreInner (sym o.all) (members-inner heap count offset (members, met) e) in
    record {
      row = o.first;
      list_met = o.before;
      list_is = o.first_is;
      value_met = o.then.1;
      values = record { reads = o.then_is ∙ ap (λ ms. Some (ms, o.then.1)) o.result; written = subst (AllByRecursion (IsWrittenValue heap)) row w; inner = all-back _ o.before o.then.1 i };
      met_is = sym o.all;
    }

pub closed : (heap : Heap) (count offset : ℕ) (row : List ℕ) (members : List Member) (list_met value_met : List Found) →
    list_at count offset heap ≡ Some (row, list_met) → AreRead heap row members value_met →
    members_at count offset heap ≡ Some (members, list_met ++ value_met)
closed heap count offset row members list_met value_met l r =
    by-list heap count offset ∙ bind-made (list_at count offset) (λ row. each member_at row) heap row list_met (members, value_met) l r.reads

pub closed-written : (heap : Heap) (count offset : ℕ) (row : List ℕ) (members : List Member) (list_met value_met : List Found) →
    list_at count offset heap ≡ Some (row, list_met) → AreRead heap row members value_met →
    AllByRecursion (IsWrittenValue heap) (offsets_at count 0 (held heap offset))
closed-written heap count offset row members list_met value_met l r = subst (AllByRecursion (IsWrittenValue heap)) (sym (list-row heap count offset row list_met l)) r.written
