use Rattle.std.proofs.Common.{arith}
use Rattle.reg_heap.specs.Edits.{values_at}
use Rattle.reg_dotreg_writer.proofs.WritableNames.{value_named, bad_named, good_named}
use Rattle.reg_dotreg_writer.proofs.writable.are_line_names.Goals as goal

pub returns-then-not-is_line_name : goal.returns-then-not-is_line_name
returns-then-not-is_line_name c =
    λ p at.
    (let e = c.values-index-end.ensures p at in
    let values = values_at c.args.tree.now.tree p in
    bad_named values c.loop-index.index c.is_line_name.result (c.loop-index.invariant p at)
    (value_named values c.loop-index.index (omega (arith, e)) c.in-Some.value.name.now c.in-Some.value.kind c.in-Some.value.size
    (c.in-Some.ensures.told p at) c.is_line_name.result c.is_line_name.ensures) c.if-not-is_line_name.true)

pub loop-index-preserved : goal.loop-index-preserved
loop-index-preserved c =
    λ p at.
    (let e = c.values-index-end.ensures p at in
    let values = values_at c.args.tree.now.tree p in
    good_named values c.loop-index.index c.is_line_name.result (c.loop-index.invariant p at)
    (value_named values c.loop-index.index (omega (arith, e)) c.in-Some.value.name.now c.in-Some.value.kind c.in-Some.value.size
    (c.in-Some.ensures.told p at) c.is_line_name.result c.is_line_name.ensures) c.if-not-is_line_name.false)
