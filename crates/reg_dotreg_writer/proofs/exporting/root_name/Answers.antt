use Rattle.std.proofs.Common.{[]}
use Rattle.std.specs.FinMap.{get}
use Rattle.reg_tree_text.proofs.LineTexts.{root_named}
use Rattle.reg_dotreg_writer.proofs.exporting.root_name.Goals as goal

pub returns : goal.returns
returns c =
    root_named (get c.args.tree.now.tree []) c.name.result.now (c.name.ensures.key [] c.root.ensures.at)
    (λ r e. c.name.ensures.told [] c.root.ensures.at r e)
