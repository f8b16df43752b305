use Rattle.reg_model.proofs.LegalJournals.{legal-front}
use Rattle.reg_model.proofs.laws.front_is_legal.Goals as goal

pub returns : goal.returns
returns c = legal-front
