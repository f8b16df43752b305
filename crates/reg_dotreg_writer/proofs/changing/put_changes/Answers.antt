use Rattle.std.proofs.Common.{[]}
use Rattle.reg_tree_text.proofs.SentTexts.{exits}
use Rattle.reg_dotreg_writer.proofs.ToldChanges.{sides-next}
use Rattle.reg_tree_text.proofs.LineTexts.{root_named}
use Rattle.reg_dotreg_writer.proofs.changing.put_changes.Goals as goal

pub returns-in_err-put_side : goal.returns-in_err-put_side
returns-in_err-put_side g c =
    λ begin whole left s.
    exits _ _ _ _ c.from_residual.ensures.1
    (c.in_err-put_side.ensures begin whole _
    (sides-next c.args.old.now.tree c.args.new.now.tree c.args.is_utf8 _
    (root_named _ _ c.root.ensures.tree.root (λ r e. c.name-root.ensures.told [] c.root.ensures.at r e)) begin _ whole left _ _ s))

pub returns : goal.returns
returns g c =
    λ begin whole left s.
    c.put_side-2.ensures begin whole left
    (c.in_ok-put_side.ensures begin whole _
    (sides-next c.args.old.now.tree c.args.new.now.tree c.args.is_utf8 _
    (root_named _ _ c.root.ensures.tree.root (λ r e. c.name-root.ensures.told [] c.root.ensures.at r e)) begin _ whole left _ _ s))
