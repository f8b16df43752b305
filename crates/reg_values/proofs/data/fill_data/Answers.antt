use Rattle.std.proofs.Common.{sym, ap, ◌∙◌, ◌<◌, length, take, arith, length-take}
use Rattle.std.proofs.lemmas.Option.{same_Some}
use Rattle.reg_arena.specs.Arena.{heap_of}
use Rattle.reg_values.proofs.ValueListing.FoundValues.{is-some, some-of}
use Rattle.reg_values.proofs.ValueData.DataForms.{big-data, one-data, plain-long}
use Rattle.reg_values.proofs.ValueData.FilledRooms.{filled_by}
use Rattle.reg_values.proofs.data.fill_data.Goals as goal

pub fill_big-requires-clause-big : goal.fill_big-requires-clause-big
fill_big-requires-clause-big c =
    let x = some-of _ c.requires.data in
    is-some _ x.0 (big-data (heap_of c.args.arena.now) c.args.fields x.0.0 x.0.1 x.1 c.if-size-gt-SEGMENT_SIZE.true c.if-fields-ge-INLINE.false)

pub fill_big-requires-clause-room : goal.fill_big-requires-clause-room
fill_big-requires-clause-room c =
    let x = some-of _ c.requires.data in
    let n = plain-long (heap_of c.args.arena.now) c.args.fields x.0.0 x.0.1 x.1 c.if-fields-ge-INLINE.false in
    let r = c.requires.room x.0.0 x.0.1 x.1 in
    omega (arith, n, r)

pub returns-then-size-gt-SEGMENT_SIZE : goal.returns-then-size-gt-SEGMENT_SIZE
returns-then-size-gt-SEGMENT_SIZE c = λ all met e.
    c.fill_big.ensures all met (big-data (heap_of c.args.arena.now) c.args.fields all met e c.if-size-gt-SEGMENT_SIZE.true c.if-fields-ge-INLINE.false)

pub slice_bounds-fill_front-end-2 : goal.slice_bounds-fill_front-end-2
slice_bounds-fill_front-end-2 c =
    let n : 0 < c.args.fields.size = omega (arith, c.if-fields-eq0.false) in
    let x = some-of _ c.requires.data in
    let o = one-data (heap_of c.args.arena.now) c.args.fields x.0.0 x.0.1 x.1 n c.if-size-gt-SEGMENT_SIZE.false in
    let s = ap length (same_Some _ _ (sym o.here ∙ c.content.ensures)) in
    let long = o.long in
    omega (arith, s, long, length-take c.args.fields.size c.content.result.now)

pub fill_front-requires-2 : goal.fill_front-requires-2
fill_front-requires-2 c =
    let x = some-of _ c.requires.data in
    let n = plain-long (heap_of c.args.arena.now) c.args.fields x.0.0 x.0.1 x.1 c.if-fields-ge-INLINE.false in
    let r = c.requires.room x.0.0 x.0.1 x.1 in
    omega (arith, n, r, length-take c.args.fields.size c.content.result.now)

pub returns : goal.returns
returns c = λ all met e.
    let n : 0 < c.args.fields.size = omega (arith, c.if-fields-eq0.false) in
    let o = one-data (heap_of c.args.arena.now) c.args.fields all met e n c.if-size-gt-SEGMENT_SIZE.false in
    c.fill_front-2.ensures ∙ ap (λ xs. filled_by xs c.args.room.now) (ap (take c.args.fields.size) (same_Some _ _ (sym c.content.ensures ∙ o.here)) ∙ sym o.is)
