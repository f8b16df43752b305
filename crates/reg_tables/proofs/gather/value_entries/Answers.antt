use Rattle.std.proofs.Common.{arith}
use Rattle.reg_heap.specs.Edits.{values_at}
use Rattle.reg_tree_text.proofs.LineTexts.{next_value}
use Rattle.reg_tables.proofs.GatheredKeys.{gathered_none, gathered_more, gathered_all}
use Rattle.reg_tables.proofs.gather.value_entries.Goals as goal

pub loop-index-init : goal.loop-index-init
loop-index-init c = λ p at. gathered_none (values_at c.args.tree.now.tree p) _ c.new-entries.ensures.items

pub loop-index-preserved : goal.loop-index-preserved
loop-index-preserved c =
    λ p at.
    (let e = c.values-index-end.ensures p at in
    let n = next_value (values_at c.args.tree.now.tree p) c.loop-index.index (omega (arith, e)) in
    gathered_more (values_at c.args.tree.now.tree p) c.loop-index.index _ _ _ n.0 n.2 (c.in_ok-value_entry.ensures p at n.0 n.1) c.in_ok-push.ensures.items
    (c.loop-index.invariant p at))

pub returns : goal.returns
returns c =
    λ p at.
    (let e = c.values-index-end.ensures p at in
    gathered_all (values_at c.args.tree.now.tree p) _ _ (omega (arith, e)) (c.loop-index.invariant p at))
