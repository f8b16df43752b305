use Rattle.reg_tree_text.proofs.SentTexts.{opened, swapped, exits}
use Rattle.reg_diff.specs.Differences.{field_changes, value_changes}
use Rattle.reg_diff.proofs.SideSteps.{values-said}
use Rattle.reg_diff.proofs.diffing.put_key_changes.Goals as goal

pub returns-in_err-put_field_changes : goal.returns-in_err-put_field_changes
returns-in_err-put_field_changes g c =
    λ p q at there was is here found begin whole left s.
    exits _ _ _ _ c.from_residual.ensures.1
    (c.in_err-put_field_changes.ensures p q at there was is here found begin whole _
    (opened begin _ whole (field_changes c.args.ignored c.args.path.now was is) (value_changes c.args.ignored.order c.args.path.now was.values is.values) left _ _ s))

pub returns : goal.returns
returns g c =
    λ p q at there was is here found begin whole left s.
    c.put_value_changes.ensures p q at there begin whole left
    (swapped begin _ whole _ _ left _ _
    (c.in_ok-put_field_changes.ensures p q at there was is here found begin whole _
    (opened begin _ whole (field_changes c.args.ignored c.args.path.now was is) (value_changes c.args.ignored.order c.args.path.now was.values is.values) left _ _ s))
    (values-said c.args.ignored.order c.args.path.now c.args.old.now.tree c.args.new.now.tree p q was is here found))
