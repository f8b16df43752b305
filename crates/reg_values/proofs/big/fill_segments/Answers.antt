use Rattle.std.proofs.Common.{◌∙◌, ap, arith}
use Rattle.reg_arena.specs.Arena.{heap_of}
use Rattle.reg_values.proofs.ValueListing.FoundValues.{some-of}
use Rattle.reg_values.proofs.ValueData.SegmentReading.{segments-long, all-taken, within}
use Rattle.reg_values.proofs.ValueData.FilledRooms.{filled_by, piece-fits, filled-next}
use Rattle.reg_values.proofs.big.fill_segments.Goals as goal

pub fill_behind-requires : goal.fill_behind-requires
fill_behind-requires c =
    let x = some-of _ c.requires.pieces in
    let n = segments-long (heap_of c.args.arena.now) c.args.size c.args.list x.0.0 x.0.1 x.1 in
    let l = within c.args.size c.loop-index.index _ c.segments_for-index-end.ensures c.loop-index-test.true in
    piece-fits x.0.0 c.segment_at.result.now c.loop-index.index (omega (arith, l, n)) (c.segment_at.ensures x.0.0 x.0.1 x.1) _
    (omega (arith, n, c.requires.room, c.loop-index.auto.room))

pub loop-index-preserved : goal.loop-index-preserved
loop-index-preserved c = λ all met e.
    let n = segments-long (heap_of c.args.arena.now) c.args.size c.args.list all met e in
    let l = within c.args.size c.loop-index.index _ c.segments_for-index-end.ensures c.loop-index-test.true in
    filled-next all c.segment_at.result.now c.loop-index.index (omega (arith, l, n)) (c.segment_at.ensures all met e) c.args.room.now c.loop-index.room _
    (c.loop-index.invariant all met e) c.fill_behind.ensures

pub returns : goal.returns
returns c = λ all met e.
    c.loop-index.invariant all met e ∙ ap (λ xs. filled_by xs c.args.room.now)
    (all-taken (heap_of c.args.arena.now) c.args.size c.args.list c.loop-index.index all met e (omega (arith, c.segments_for-index-end.ensures, c.loop-index-test.false)))
