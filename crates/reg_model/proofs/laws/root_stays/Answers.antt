use Rattle.reg_model.proofs.LegalJournals.{root-stays}
use Rattle.reg_model.proofs.laws.root_stays.Goals as goal

pub returns : goal.returns
returns c = root-stays
