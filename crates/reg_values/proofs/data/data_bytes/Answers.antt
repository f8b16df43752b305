use Rattle.std.proofs.Common.{sym, ap, ◌∙◌, ◌≡◌, ◌≢◌, ℕ, List, [], Some, length, take, arith, length-take}
use Rattle.std.proofs.lemmas.Option.{same_Some}
use Rattle.reg_heap.specs.Kinds.{Found}
use Rattle.reg_arena.specs.Arena.{heap_of}
use Rattle.reg_shape.specs.Nodes.{big_at, data_at}
use Rattle.reg_values.proofs.ValueListing.FoundValues.{is-some, some-of, is-ok, only-err}
use Rattle.reg_values.proofs.ValueData.DataForms.{big-data, one-data, empty-data, some-data, some-size}
use Rattle.reg_values.proofs.data.data_bytes.Goals as goal

pub big_bytes-requires-clause-big : goal.big_bytes-requires-clause-big
big_bytes-requires-clause-big c =
    let x = some-of _ c.requires in
    is-some _ x.0 (big-data (heap_of c.args.arena.now) c.args.fields x.0.0 x.0.1 x.1 c.if-size-gt-SEGMENT_SIZE.true c.if-fields-ge-INLINE.false)

pub returns-then-size-gt-SEGMENT_SIZE-clause-told : goal.returns-then-size-gt-SEGMENT_SIZE-clause-told
returns-then-size-gt-SEGMENT_SIZE-clause-told c =
    let h = heap_of c.args.arena.now in
    is-ok (λ b. (all : List ℕ) → (met : List Found) → big_at c.args.fields.size c.args.fields.offset h ≡ Some (all, met) →
    b.items ≡ all) (λ b. (all : List ℕ) → (met : List Found) → data_at c.args.fields h ≡ Some (all, met) → b.items ≡ all) c.big_bytes.result
    (λ b f all met e. f all met (big-data h c.args.fields all met e c.if-size-gt-SEGMENT_SIZE.true c.if-fields-ge-INLINE.false)) c.big_bytes.ensures

pub slice_bounds-from_slice-end-2 : goal.slice_bounds-from_slice-end-2
slice_bounds-from_slice-end-2 c =
    let x = some-of _ c.requires in
    let n = some-size c.args.fields _ c.size_in.ensures c.if-size_in-eq0.false c.if-fields-ge-INLINE.false in
    let o = one-data (heap_of c.args.arena.now) c.args.fields x.0.0 x.0.1 x.1 (omega (arith, n)) c.if-size-gt-SEGMENT_SIZE.false in
    let s = ap length (same_Some _ _ (sym o.here ∙ c.content.ensures)) in
    let long = o.long in
    omega (arith, s, long, length-take c.args.fields.size c.content.result.now)

pub returns-clause-told : goal.returns-clause-told
returns-clause-told c =
    let h = heap_of c.args.arena.now in
    let n = some-size c.args.fields _ c.size_in.ensures c.if-size_in-eq0.false c.if-fields-ge-INLINE.false in
    is-ok (λ b. b.items ≡ take c.args.fields.size c.content.result.now) (λ b. (all : List ℕ) → (met : List Found) → data_at c.args.fields h ≡ Some (all, met) → b.items ≡ all) c.from_slice-2.result
    (λ b f all met e.
    let o = one-data h c.args.fields all met e (omega (arith, n)) c.if-size-gt-SEGMENT_SIZE.false in
    f ∙ (ap (take c.args.fields.size) (same_Some _ _ (sym c.content.ensures ∙ o.here)) ∙ sym o.is)) c.from_slice-2.ensures.items

pub returns-then-size_in-eq0-clause-told : goal.returns-then-size_in-eq0-clause-told
returns-then-size_in-eq0-clause-told c = λ all met e.
    c.new.ensures.items ∙ sym (empty-data (heap_of c.args.arena.now) c.args.fields all met e _ c.size_in.ensures c.if-size_in-eq0.true)

pub returns-then-fields-ge-INLINE-clause-empty : goal.returns-then-fields-ge-INLINE-clause-empty
returns-then-fields-ge-INLINE-clause-empty c =
    let none : (all : List ℕ) → (met : List Found) → data_at c.args.fields (heap_of c.args.arena.now) ≡ Some (all, met) → all ≢ [] =
    λ all met e. some-data (heap_of c.args.arena.now) c.args.fields all met e _ c.size_in.ensures c.if-size_in-eq0.false in
    only-err _ _ none

pub returns-then-size-gt-SEGMENT_SIZE-clause-empty : goal.returns-then-size-gt-SEGMENT_SIZE-clause-empty
returns-then-size-gt-SEGMENT_SIZE-clause-empty c =
    let none : (all : List ℕ) → (met : List Found) → data_at c.args.fields (heap_of c.args.arena.now) ≡ Some (all, met) → all ≢ [] =
    λ all met e. some-data (heap_of c.args.arena.now) c.args.fields all met e _ c.size_in.ensures c.if-size_in-eq0.false in
    only-err _ _ none

pub returns-clause-empty : goal.returns-clause-empty
returns-clause-empty c =
    let none : (all : List ℕ) → (met : List Found) → data_at c.args.fields (heap_of c.args.arena.now) ≡ Some (all, met) → all ≢ [] =
    λ all met e. some-data (heap_of c.args.arena.now) c.args.fields all met e _ c.size_in.ensures c.if-size_in-eq0.false in
    only-err _ _ none
