use Rattle.reg_dotreg_law.proofs.MadeOfFile.{branch-of_file}
use Rattle.reg_dotreg_law.proofs.import_of_an_export_is_the_branch.Goals as goal

pub returns : goal.returns
returns c = branch-of_file
