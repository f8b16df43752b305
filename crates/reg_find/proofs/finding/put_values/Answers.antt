use Rattle.std.proofs.Common.{arith, ◌∙◌}
use Rattle.reg_heap.specs.Edits.{values_at}
use Rattle.reg_tree_text.proofs.SentTexts.{exits}
use Rattle.reg_tree_text.proofs.LineTexts.{next_value}
use Rattle.reg_find.proofs.FoundLines.{value_next}
use Rattle.reg_find.proofs.finding.put_values.Goals as goal

pub returns-in_err-put_value-clause-puts : goal.returns-in_err-put_value-clause-puts
returns-in_err-put_value-clause-puts g c =
    λ p at begin whole left s.
    (let e = c.values-index-end.ensures p at in
    let n = next_value (values_at c.args.tree.now.tree p) c.loop-index.index (omega (arith, e)) in
    exits _ _ _ _ c.from_residual.ensures.1
    (c.in_err-put_value.ensures.puts p at n.0 n.1 begin whole _
    (value_next begin _ whole left _ _ (g.P.Pattern.matches c.args.pattern.now) _ c.args.scope _ (values_at c.args.tree.now.tree p) c.loop-index.index n.0 c.loop-index.invariant.0 n.2
    (c.loop-index.invariant.1 p at begin whole left s))))

pub loop-index-preserved : goal.loop-index-preserved
loop-index-preserved g c = (
  c.in_ok-put_value.ensures.same ∙ c.loop-index.invariant.0,
  λ p at begin whole left s.
      (let e = c.values-index-end.ensures p at in
      let n = next_value (values_at c.args.tree.now.tree p) c.loop-index.index (omega (arith, e)) in
      c.in_ok-put_value.ensures.puts p at n.0 n.1 begin whole _
      (value_next begin _ whole left _ _ (g.P.Pattern.matches c.args.pattern.now) _ c.args.scope _ (values_at c.args.tree.now.tree p) c.loop-index.index n.0 c.loop-index.invariant.0 n.2
      (c.loop-index.invariant.1 p at begin whole left s))),
)
