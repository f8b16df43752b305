use Rattle.reg_model.proofs.LegalJournals.{number-is}
use Rattle.reg_model.proofs.laws.numbers_go_on_from_the_base.Goals as goal

pub returns : goal.returns
returns c = number-is
