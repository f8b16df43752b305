use Rattle.std.proofs.Common.{◌+◌, length, arith}
use Rattle.reg_heap.specs.Edits.{values_at}
use Rattle.zugmeled.proofs.ValueRows.{told-long}
use Rattle.zugmeled.proofs.WithValues.{at-index, left-behind, none-left, all-fit}
use Rattle.zugmeled.proofs.with_values.have_place.Goals as goal

pub returns-then-size-left-clause-none : goal.returns-then-size-left-clause-none
returns-then-size-left-clause-none c = λ p at e.
    let tree = c.args.tree.now.tree in
    let s = c.in-Some.ensures.told p at in
    none-left tree (values_at tree p) c.loop-index.index s.0 c.loop-index.left _ c.args.room c.args.rows
    (omega (arith, c.loop-index-test.true, c.values-values.ensures p at)) (at-index tree (values_at tree p) c.loop-index.index s.0 s.1)
    (told-long s.0 _ _ _ s.2) (c.loop-index.invariant p at) c.if-size-left.true

pub loop-index-preserved : goal.loop-index-preserved
loop-index-preserved c = λ p at.
    let tree = c.args.tree.now.tree in
    let s = c.in-Some.ensures.told p at in
    left-behind tree (values_at tree p) c.loop-index.index s.0 c.loop-index.left (length c.in-Some.value.name.now + c.in-Some.value.size) _ c.args.room
    (omega (arith, c.loop-index-test.true, c.values-values.ensures p at)) (at-index tree (values_at tree p) c.loop-index.index s.0 s.1)
    (told-long s.0 _ _ _ s.2) (c.loop-index.invariant p at) (omega (arith, c.if-size-left.false))

pub returns-clause-place : goal.returns-clause-place
returns-clause-place c = λ p at e.
    let tree = c.args.tree.now.tree in
    let many = c.values-values.ensures p at in (
      omega (arith, c.if-values-rows.false, many),
      all-fit tree (values_at tree p) c.loop-index.index c.loop-index.left c.args.room (omega (arith, c.loop-index-test.false, many)) (c.loop-index.invariant p at),
    )
