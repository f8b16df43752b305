use Rattle.std.proofs.Common.{arith, ap, sym, drop, ◌+◌}
use Rattle.std.specs.Prelude.{flat_map}
use Rattle.reg_heap.specs.Edits.{values_at}
use Rattle.reg_tree_text.specs.DumpTexts.{value_line}
use Rattle.reg_tree_text.proofs.SentTexts.{opened, swapped, exits}
use Rattle.reg_tree_text.proofs.LineTexts.{next_value}
use Rattle.reg_tree_text.proofs.dump_line.put_values.Goals as goal

pub returns-in_err-put_value : goal.returns-in_err-put_value
returns-in_err-put_value g c =
    λ p at begin whole left s.
    (let e = c.values-index-end.ensures p at in
    let n = next_value (values_at c.args.tree.now.tree p) c.loop-index.index (omega (arith, e)) in
    exits _ _ _ _ c.from_residual.ensures.1
    (c.in_err-put_value.ensures p at n.0 n.1 begin whole _
    (opened begin _ whole (value_line n.0) (flat_map value_line (drop (c.loop-index.index + 1) (values_at c.args.tree.now.tree p))) left _ _
    (swapped begin _ whole _ _ left _ _ (c.loop-index.invariant p at begin whole left s) (sym (ap (flat_map value_line) n.2))))))

pub loop-index-preserved : goal.loop-index-preserved
loop-index-preserved g c =
    λ p at begin whole left s.
    (let e = c.values-index-end.ensures p at in
    let n = next_value (values_at c.args.tree.now.tree p) c.loop-index.index (omega (arith, e)) in
    c.in_ok-put_value.ensures p at n.0 n.1 begin whole _
    (opened begin _ whole (value_line n.0) (flat_map value_line (drop (c.loop-index.index + 1) (values_at c.args.tree.now.tree p))) left _ _
    (swapped begin _ whole _ _ left _ _ (c.loop-index.invariant p at begin whole left s) (sym (ap (flat_map value_line) n.2)))))
