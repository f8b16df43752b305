use Rattle.std.proofs.Common.{sym, ap, length, arith}
use Rattle.reg_records.specs.BigData.{segments_for}
use Rattle.reg_values.proofs.ValueChanges.PlannedSizes.{few-sizes, one-size, big-sizes}
use Rattle.reg_values.proofs.ValueData.NewCellRoom.{segment-count}
use Rattle.reg_values.proofs.plan.data_cells.Goals as goal

pub returns-then-size-le-INLINE_LIMIT : goal.returns-then-size-le-INLINE_LIMIT
returns-then-size-le-INLINE_LIMIT c = sym (ap length (few-sizes c.args.size c.if-size-le-INLINE_LIMIT.true))

pub returns-then-size-le-SEGMENT_SIZE : goal.returns-then-size-le-SEGMENT_SIZE
returns-then-size-le-SEGMENT_SIZE c = sym (ap length (one-size c.args.size c.if-size-le-INLINE_LIMIT.false c.if-size-le-SEGMENT_SIZE.true))

pub returns : goal.returns
returns c =
    let e = ap length (big-sizes c.args.size c.if-size-le-SEGMENT_SIZE.false) in
    let n = segment-count (segments_for c.args.size) c.args.size in
    let f = c.segments_for.ensures in
    omega (arith, e, n, f)
