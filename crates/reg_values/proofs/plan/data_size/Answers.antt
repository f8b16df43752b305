use Rattle.std.proofs.Common.{◌*◌, ◌-◌, refl, sym, ap, arith}
use Rattle.reg_arena.specs.NewCells.{total_of}
use Rattle.reg_values.proofs.ValueChanges.PlannedSizes.{few-sizes, one-size}
use Rattle.reg_values.proofs.ValueData.CellSizeTotals.{big-exact}
use Rattle.reg_values.proofs.plan.data_size.Goals as goal

pub returns-then-size-le-INLINE_LIMIT : goal.returns-then-size-le-INLINE_LIMIT
returns-then-size-le-INLINE_LIMIT c = sym (ap total_of (few-sizes c.args.size c.if-size-le-INLINE_LIMIT.true))

pub returns-then-size-le-SEGMENT_SIZE : goal.returns-then-size-le-SEGMENT_SIZE
returns-then-size-le-SEGMENT_SIZE c =
    let s = ap total_of (one-size c.args.size c.if-size-le-INLINE_LIMIT.false c.if-size-le-SEGMENT_SIZE.true) in
    let e = c.cell_size.ensures.size in
    omega (arith, s, e)

pub returns : goal.returns
returns c =
    let a = c.cell_size-2.ensures.size in
    let b = c.cell_size-3.ensures.size in
    let d = ap (λ n. n * (c.segments_for-count.result - 1)) c.cell_size-4.ensures.size in
    let e = c.cell_size-5.ensures.size in
    let t = big-exact c.args.size c.segments_for-count.result _ c.if-size-le-SEGMENT_SIZE.false c.segments_for-count.ensures refl in
    omega (arith, a, b, d, e, t)
