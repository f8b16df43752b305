use Rattle.std.proofs.Common.{arith}
use Rattle.reg_heap.specs.Edits.{values_at}
use Rattle.reg_tree_text.proofs.SentTexts.{exits}
use Rattle.reg_tree_text.proofs.LineTexts.{next_value}
use Rattle.reg_tables.specs.LongListings.{value_line}
use Rattle.reg_tables.proofs.LongLines.{first-next}
use Rattle.reg_tables.proofs.long_line.put_values.Goals as goal

pub returns-in_err-put_value : goal.returns-in_err-put_value
returns-in_err-put_value g c =
    λ p at begin whole left s.
    (let e = c.values-index-end.ensures p at in
    let n = next_value (values_at c.args.tree.now.tree p) c.loop-index.index (omega (arith, e)) in
    exits _ _ _ _ c.from_residual.ensures.1
    (c.in_err-put_value.ensures p at n.0 n.1 begin whole _
    (first-next begin _ whole (value_line c.args.columns) _ _ n.0 left _ _ n.2 (c.loop-index.invariant p at begin whole left s))))

pub loop-index-preserved : goal.loop-index-preserved
loop-index-preserved g c =
    λ p at begin whole left s.
    (let e = c.values-index-end.ensures p at in
    let n = next_value (values_at c.args.tree.now.tree p) c.loop-index.index (omega (arith, e)) in
    c.in_ok-put_value.ensures p at n.0 n.1 begin whole _
    (first-next begin _ whole (value_line c.args.columns) _ _ n.0 left _ _ n.2 (c.loop-index.invariant p at begin whole left s)))
