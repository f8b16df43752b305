use Rattle.std.proofs.Common.{arith, length-drop}
use Rattle.reg_heap.specs.Edits.{values_at}
use Rattle.zugmeled.specs.Lists.{value_bytes, value_row, values_from}
use Rattle.zugmeled.proofs.ItemsTold.{first-row}
use Rattle.zugmeled.proofs.ValueRows.{no_value, first-value}
use Rattle.zugmeled.proofs.lists.tell_first_value.Goals as goal

pub returns-then-rows-gt0 : goal.returns-then-rows-gt0
returns-then-rows-gt0 c = λ p at.
    let tree = c.args.tree.now.tree in
    let s = c.in-Some.ensures.told p at in
    let there = c.requires.index p at in
    first-row (value_row tree) (value_bytes tree) (values_from c.args.index tree p) no_value s.0 c.args.rows.now c.value_row.result
    (omega (arith, there, length-drop c.args.index (values_at tree p))) (omega (arith, c.if-rows-gt0.true))
    (first-value c.args.index tree p s.0 s.1) (c.value_row.ensures s.0 s.2 tree)
