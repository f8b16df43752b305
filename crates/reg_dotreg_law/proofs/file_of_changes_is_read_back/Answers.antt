use Rattle.reg_dotreg_law.proofs.ChangesFiles.{changes-file}
use Rattle.reg_dotreg_law.proofs.file_of_changes_is_read_back.Goals as goal

pub returns : goal.returns
returns c = changes-file
