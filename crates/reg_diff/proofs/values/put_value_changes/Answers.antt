use Rattle.std.proofs.Common.{sym, ◌∙◌}
use Rattle.reg_heap.specs.Edits.{values_at}
use Rattle.reg_tree_text.proofs.SentTexts.{ends, swapped, stops_full, exits}
use Rattle.reg_diff.proofs.SameValues.{same-none}
use Rattle.reg_diff.proofs.ChangeSteps.{lost-next, come-next, order-told, order-not}
use Rattle.reg_diff.proofs.SideSteps.{values-apart}
use Rattle.reg_diff.proofs.values.put_value_changes.Goals as goal

pub returns-in_err-are_same : goal.returns-in_err-are_same
returns-in_err-are_same g c = λ p q at there begin whole left s. exits _ _ _ _ c.from_residual.ensures.1 (stops_full begin _ whole _ _ _ s)

pub returns-then-branch : goal.returns-then-branch
returns-then-branch g c =
    λ p q at there begin whole left s.
    ends begin _ whole _ left _ _ s
    (same-none c.args.is_order_ignored c.args.path.now (values_at c.args.old.now.tree p) (values_at c.args.new.now.tree q)
    (values-apart c.args.old.now.tree p c.root-root.ensures.tree) (sym (c.in_ok-are_same.ensures p q at there) ∙ c.if-branch.true))

pub returns-in_err-none_lost : goal.returns-in_err-none_lost
returns-in_err-none_lost g c =
    λ p q at there begin whole left s.
    exits _ _ _ _ c.from_residual-in_err-none_lost.ensures.1
    (c.in_err-none_lost.ensures.puts p q at there begin whole _
    (lost-next begin _ whole left _ _ c.args.is_order_ignored c.args.path.now (values_at c.args.old.now.tree p) (values_at c.args.new.now.tree q) s))

pub returns-in_err-none_came : goal.returns-in_err-none_came
returns-in_err-none_came g c =
    λ p q at there begin whole left s.
    exits _ _ _ _ c.from_residual-in_err-none_came.ensures.1
    (c.in_err-none_came.ensures.puts p q at there begin whole _
    (come-next begin _ whole left _ _ c.args.is_order_ignored c.args.path.now (values_at c.args.old.now.tree p) (values_at c.args.new.now.tree q)
    (c.in_ok-none_lost.ensures.puts p q at there begin whole _
    (lost-next begin _ whole left _ _ c.args.is_order_ignored c.args.path.now (values_at c.args.old.now.tree p) (values_at c.args.new.now.tree q) s))))

pub returns-then-none_lost-none_came : goal.returns-then-none_lost-none_came
returns-then-none_lost-none_came g c =
    λ p q at there begin whole left s.
    c.put_order.ensures begin whole left
    (swapped begin _ whole _ _ left _ _
    (c.in_ok-none_came.ensures.puts p q at there begin whole _
    (come-next begin _ whole left _ _ c.args.is_order_ignored c.args.path.now (values_at c.args.old.now.tree p) (values_at c.args.new.now.tree q)
    (c.in_ok-none_lost.ensures.puts p q at there begin whole _
    (lost-next begin _ whole left _ _ c.args.is_order_ignored c.args.path.now (values_at c.args.old.now.tree p) (values_at c.args.new.now.tree q) s))))
    (order-told c.args.is_order_ignored c.args.path.now (values_at c.args.old.now.tree p) (values_at c.args.new.now.tree q) _ _
    (c.in_ok-none_lost.ensures.quiet p q at there) (c.in_ok-none_came.ensures.quiet p q at there) _
    (c.in_ok-are_same.ensures p q at there) c.if-branch.false c.if-none_lost-none_came.true))

pub returns : goal.returns
returns g c =
    λ p q at there begin whole left s.
    ends begin _ whole _ left _ _
    (c.in_ok-none_came.ensures.puts p q at there begin whole _
    (come-next begin _ whole left _ _ c.args.is_order_ignored c.args.path.now (values_at c.args.old.now.tree p) (values_at c.args.new.now.tree q)
    (c.in_ok-none_lost.ensures.puts p q at there begin whole _
    (lost-next begin _ whole left _ _ c.args.is_order_ignored c.args.path.now (values_at c.args.old.now.tree p) (values_at c.args.new.now.tree q) s))))
    (order-not c.args.is_order_ignored c.args.path.now (values_at c.args.old.now.tree p) (values_at c.args.new.now.tree q) _ _
    (c.in_ok-none_lost.ensures.quiet p q at there) (c.in_ok-none_came.ensures.quiet p q at there) c.if-none_lost-none_came.false)
