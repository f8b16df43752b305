use Rattle.reg_dotreg_law.proofs.MadeOfFile.{made-of_file}
use Rattle.reg_dotreg_law.proofs.import_of_an_export_is_the_tree.Goals as goal

pub returns : goal.returns
returns c = made-of_file
