use Rattle.std.proofs.Common.{[]}
use Rattle.reg_tree_text.proofs.LineTexts.{root_named}
use Rattle.reg_dotreg_writer.proofs.FileChanges.{old-found, new-found, if_ok}
use Rattle.reg_dotreg_writer.proofs.unwritable.find_unwritable_change.Goals as goal

pub returns-in-Some : goal.returns-in-Some
returns-in-Some c =
    old-found c.args.old.now.tree c.args.new.now.tree _
    (root_named _ _ c.root.ensures.tree.root (λ r e. c.name-root.ensures.told [] c.root.ensures.at r e)) _
    (rw c.in-Some.is at c.in_ok-key.ensures)

pub returns : goal.returns
returns c =
    if_ok _ _ c.find_in_side-2.result
    (λ key e.
    new-found c.args.old.now.tree c.args.new.now.tree _
    (root_named _ _ c.root.ensures.tree.root (λ r e. c.name-root.ensures.told [] c.root.ensures.at r e)) _
    (rw c.in_default.is at c.in_ok-key.ensures) e)
    c.find_in_side-2.ensures
