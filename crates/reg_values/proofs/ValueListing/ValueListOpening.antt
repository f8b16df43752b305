-- A list of values taken apart.
use Rattle.std.proofs.Common.{◌≡◌, ℕ, zero, suc, ◌+◌, Some, List, [], ◌∷◌, length, refl, sym, ap, ◌∙◌, arith}
use Rattle.std.proofs.lemmas.Option.{same_Some}
use Rattle.reg_heap.specs.declared.limits.TheConstants.{NONE}
use Rattle.reg_heap.specs.Paths.{Member}
use Rattle.reg_heap.specs.Heaps.{Heap}
use Rattle.reg_heap.specs.Kinds.{Found}
use Rattle.reg_heap.specs.Kinds.Kind.{ValueList}
use Rattle.reg_shape.specs.Readings.{each}
use Rattle.reg_shape.proofs.Walking.ReadingParts.{bind-open, each-open}
use Rattle.reg_records.specs.OffsetRows.{offsets_at}
use Rattle.reg_shape.specs.Nodes.{row_at, member_at, members_at}
use Rattle.reg_shape.proofs.Walking.ReadingWalks.{row-open}
use Rattle.reg_shape.proofs.Frame.WrittenFrame.{row-is}
use Rattle.reg_values.specs.ValueLists.{AreValues, Became}

pub length-offsets : (count at : ℕ) (content : List ℕ) → length (offsets_at count at content) ≡ count
unfolding offsets_at
length-offsets zero at content = refl
length-offsets (suc n) at content = ap suc (length-offsets n (at + 4) content)

pub each-length : (heap : Heap) (row : List ℕ) (members : List Member) (cells : List Found) → each member_at row heap ≡ Some (members, cells) → length members ≡ length row
each-length heap [] members cells e = ap (λ (p : List Member × List Found). length p.0) (sym (same_Some _ _ e))
each-length heap (offset ∷ row) members cells e =
    let o = each-open member_at heap offset row members cells e in
    ap length (sym o.result) ∙ ap suc (each-length heap row o.tail o.tail_cells o.tail_is)

pub members-length : (heap : Heap) (count offset : ℕ) (members : List Member) (met : List Found) → members_at count offset heap ≡ Some (members, met) → length members ≡ count
members-length heap zero offset members met e = ap (λ (p : List Member × List Found). length p.0) (sym (same_Some _ _ e))
members-length heap (suc n) offset members met e =
    let o = bind-open (row_at ValueList (suc n) offset) (λ row. each member_at row) heap (members, met) e in
    let r = row-open heap ValueList (suc n) offset o.first o.before o.first_is in
    let row : offsets_at (suc n) 0 r.content ≡ o.first = row-is (suc n) r.content o.first r.row_is in
    ap length (sym o.result) ∙ (each-length heap o.first o.then.0 o.then.1 o.then_is ∙ (ap length (sym row) ∙ length-offsets (suc n) 0 r.content))

pub no-values : (heap : Heap) → AreValues heap 0 NONE
unfolding offsets_at
no-values heap = record {
  members = [];
  met = [];
  reads = refl;
  once = λ offset. omega arith;
  written = record { few = omega arith; none = λ _. refl; each = tt; names = tt; apart = tt; sizes = tt };
}

pub values-length : (heap : Heap) (count offset : ℕ) (values : AreValues heap count offset) → length values.members ≡ count
values-length heap count offset values = members-length heap count offset values.members values.met values.reads

pub values-again : (old new : Heap) (count list_offset : ℕ) (values : AreValues old count list_offset) (count' offset' : ℕ) (members : List Member) →
    Became old new values.met count' offset' members → AreValues new count' offset'
values-again old new count list_offset values count' offset' members b = record {
  members = members;
  met = b.cells;
  reads = b.reads;
  once = λ offset. (let c = b.frame.count offset in let o = values.once offset in omega (arith, c, o));
  written = b.written;
}
