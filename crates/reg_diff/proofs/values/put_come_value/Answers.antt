use Rattle.std.proofs.Common.{ap, sym, ◌∙◌}
use Rattle.reg_heap.specs.Edits.{values_at}
use Rattle.reg_tree_text.proofs.SentTexts.{ends, swapped, exits}
use Rattle.reg_diff.specs.declared.side.Side.TheVariants.{New}
use Rattle.reg_diff.specs.Internal.Parts.{member_of, is_nothing}
use Rattle.reg_diff.proofs.ValueLines.{come-said, there-said, not-there, line-some}
use Rattle.reg_diff.proofs.values.put_come_value.Goals as goal

pub returns-then-is_some-clause-puts : goal.returns-then-is_some-clause-puts
returns-then-is_some-clause-puts g c =
    λ p at begin whole left s.
    ends begin _ whole _ left _ _ s
    (there-said c.args.path.now (values_at c.args.old.now.tree p) (member_of c.args.is.now) _ (c.index_near.ensures p at)
    (sym c.is_some.ensures ∙ c.if-is_some.true))

pub returns-then-is_some-clause-quiet : goal.returns-then-is_some-clause-quiet
returns-then-is_some-clause-quiet g c =
    λ p at.
    sym (ap is_nothing
    (there-said c.args.path.now (values_at c.args.old.now.tree p) (member_of c.args.is.now) _ (c.index_near.ensures p at)
    (sym c.is_some.ensures ∙ c.if-is_some.true)))

pub returns-in_err-put_value-clause-puts : goal.returns-in_err-put_value-clause-puts
returns-in_err-put_value-clause-puts g c =
    λ p at begin whole left s.
    exits _ _ _ _ c.from_residual.ensures.1
    (c.in_err-put_value.ensures begin whole left
    (swapped begin _ whole _ _ left _ _ s
    (come-said c.args.path.now (values_at c.args.old.now.tree p) (member_of c.args.is.now)
    (sym (c.index_near.ensures p at) ∙ not-there _ (sym c.is_some.ensures ∙ c.if-is_some.false)))))

pub returns-clause-puts : goal.returns-clause-puts
returns-clause-puts g c =
    λ p at begin whole left s.
    c.in_ok-put_value.ensures begin whole left
    (swapped begin _ whole _ _ left _ _ s
    (come-said c.args.path.now (values_at c.args.old.now.tree p) (member_of c.args.is.now)
    (sym (c.index_near.ensures p at) ∙ not-there _ (sym c.is_some.ensures ∙ c.if-is_some.false))))

pub returns-clause-quiet : goal.returns-clause-quiet
returns-clause-quiet g c =
    λ p at.
    line-some New c.args.path.now (member_of c.args.is.now)
    ∙ ap is_nothing (come-said c.args.path.now (values_at c.args.old.now.tree p) (member_of c.args.is.now)
    (sym (c.index_near.ensures p at) ∙ not-there _ (sym c.is_some.ensures ∙ c.if-is_some.false)))
