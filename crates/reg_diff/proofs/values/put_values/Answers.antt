use Rattle.std.proofs.Common.{arith, ap}
use Rattle.reg_heap.specs.Edits.{values_at}
use Rattle.reg_tree_text.proofs.SentTexts.{swapped, stops_full, exits}
use Rattle.reg_tree_text.proofs.LineTexts.{next_value}
use Rattle.reg_diff.specs.Differences.{value_line}
use Rattle.reg_diff.proofs.ReadValues.{line-next}
use Rattle.reg_diff.proofs.values.put_values.Goals as goal

pub returns-in_err-value : goal.returns-in_err-value
returns-in_err-value g c =
    λ p at begin whole left s.
    exits _ _ _ _ c.from_residual.ensures.1 (stops_full begin _ whole _ _ _ (c.loop-index.invariant p at begin whole left s))

pub returns-in_err-put_value : goal.returns-in_err-put_value
returns-in_err-put_value g c =
    λ p at begin whole left s.
    (let e = c.values-index-end.ensures p at in
    let n = next_value (values_at c.args.tree.now.tree p) c.loop-index.index (omega (arith, e)) in
    exits _ _ _ _ c.from_residual-in_err-put_value.ensures.1
    (c.in_err-put_value.ensures begin whole _
    (swapped begin _ whole _ _ _ _ _
    (line-next (value_line c.args.side c.args.path.now) (values_at c.args.tree.now.tree p) c.loop-index.index begin _ whole left _ _ n.0 n.2
    (c.loop-index.invariant p at begin whole left s)) (ap (value_line c.args.side c.args.path.now) (c.in_ok-value.ensures p at n.0 n.1)))))

pub loop-index-preserved : goal.loop-index-preserved
loop-index-preserved g c =
    λ p at begin whole left s.
    (let e = c.values-index-end.ensures p at in
    let n = next_value (values_at c.args.tree.now.tree p) c.loop-index.index (omega (arith, e)) in
    c.in_ok-put_value.ensures begin whole _
    (swapped begin _ whole _ _ _ _ _
    (line-next (value_line c.args.side c.args.path.now) (values_at c.args.tree.now.tree p) c.loop-index.index begin _ whole left _ _ n.0 n.2
    (c.loop-index.invariant p at begin whole left s)) (ap (value_line c.args.side c.args.path.now) (c.in_ok-value.ensures p at n.0 n.1))))
