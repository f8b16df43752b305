use Rattle.reg_model.proofs.LegalJournals.{legal-at}
use Rattle.reg_model.proofs.laws.each_entry_fits.Goals as goal

pub returns : goal.returns
returns c = legal-at
