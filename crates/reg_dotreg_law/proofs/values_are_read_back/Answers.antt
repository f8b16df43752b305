use Rattle.reg_dotreg_law.proofs.EntriesBack.{value-says}
use Rattle.reg_dotreg_law.proofs.values_are_read_back.Goals as goal

pub returns : goal.returns
returns c = value-says
