use Rattle.reg_tree_text.proofs.SentTexts.{opened, exits}
use Rattle.reg_diff.specs.declared.side.Side.TheVariants.{Old, New}
use Rattle.reg_diff.specs.Differences.{side_text, diff_text}
use Rattle.reg_diff.proofs.diffing.put_diff.Goals as goal

pub put_side-requires : goal.put_side-requires
put_side-requires g c = (c.requires.0, c.requires.1)

pub returns-in_err-put_side : goal.returns-in_err-put_side
unfolding diff_text
returns-in_err-put_side g c =
    λ p here there begin whole left s.
    exits _ _ _ _ c.from_residual.ensures.1
    (c.in_err-put_side.ensures p here begin whole _
    (opened begin _ whole (side_text c.args.ignored Old c.args.old.now.tree c.args.new.now.tree p)
    (side_text c.args.ignored New c.args.new.now.tree c.args.old.now.tree p) left _ _ s))

pub put_side-requires-2 : goal.put_side-requires-2
put_side-requires-2 g c = (c.requires.0, c.requires.2)

pub returns : goal.returns
unfolding diff_text
returns g c =
    λ p here there begin whole left s.
    c.put_side-2.ensures p there begin whole left
    (c.in_ok-put_side.ensures p here begin whole _
    (opened begin _ whole (side_text c.args.ignored Old c.args.old.now.tree c.args.new.now.tree p)
    (side_text c.args.ignored New c.args.new.now.tree c.args.old.now.tree p) left _ _ s))
