use Rattle.std.proofs.Common.{arith, ap, sym, drop, length, ◌+◌}
use Rattle.reg_heap.specs.Edits.{values_at}
use Rattle.reg_tree_text.proofs.SentTexts.{opened, swapped, exits}
use Rattle.reg_tree_text.proofs.LineTexts.{next_value}
use Rattle.reg_tree_text.specs.Listings.{value_line, value_lines}
use Rattle.reg_tree_text.proofs.list_line.put_values.Goals as goal

pub returns-in_err-put_value : goal.returns-in_err-put_value
returns-in_err-put_value g c =
    λ p at begin whole left s.
    (let e = c.values-index-end.ensures p at in
    let n = next_value (values_at c.args.tree.now.tree p) c.loop-index.index (omega (arith, e)) in
    exits _ _ _ _ c.from_residual.ensures.1
    (c.in_err-put_value.ensures p at n.0 n.1 begin whole _
    (opened begin _ whole (value_line n.0.name n.0.kind (length n.0.bytes))
    (value_lines (drop (c.loop-index.index + 1) (values_at c.args.tree.now.tree p))) left _ _
    (swapped begin _ whole _ _ left _ _ (c.loop-index.invariant p at begin whole left s) (sym (ap value_lines n.2))))))

pub loop-index-preserved : goal.loop-index-preserved
loop-index-preserved g c =
    λ p at begin whole left s.
    (let e = c.values-index-end.ensures p at in
    let n = next_value (values_at c.args.tree.now.tree p) c.loop-index.index (omega (arith, e)) in
    c.in_ok-put_value.ensures p at n.0 n.1 begin whole _
    (opened begin _ whole (value_line n.0.name n.0.kind (length n.0.bytes))
    (value_lines (drop (c.loop-index.index + 1) (values_at c.args.tree.now.tree p))) left _ _
    (swapped begin _ whole _ _ left _ _ (c.loop-index.invariant p at begin whole left s) (sym (ap value_lines n.2)))))
