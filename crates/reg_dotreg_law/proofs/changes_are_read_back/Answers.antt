use Rattle.reg_dotreg_law.proofs.ChangesBack.{text-back}
use Rattle.reg_dotreg_law.proofs.changes_are_read_back.Goals as goal

pub returns : goal.returns
returns c = λ name old new f i w j v o can. text-back old new i w j v o can name f
