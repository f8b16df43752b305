use Rattle.reg_dotreg_law.proofs.ReadTrees.{tree-back}
use Rattle.reg_dotreg_law.proofs.text_is_read_back.Goals as goal

pub returns : goal.returns
returns c = tree-back
