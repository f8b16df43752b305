use Rattle.reg_dotreg_law.proofs.ReadTrees.{tree-file}
use Rattle.reg_dotreg_law.proofs.file_is_read_back.Goals as goal

pub returns : goal.returns
returns c = tree-file
