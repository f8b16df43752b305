use Rattle.reg_dotreg_law.proofs.ChangedByFile.{changed-by_file}
use Rattle.reg_dotreg_law.proofs.import_of_changes_is_the_new_tree.Goals as goal

pub returns : goal.returns
returns c = λ is_utf8 old new moment i w j v o can. changed-by_file is_utf8 old new moment i w j v o can
