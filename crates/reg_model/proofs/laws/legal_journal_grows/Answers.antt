use Rattle.reg_model.proofs.JournalGrowth.{legal-push}
use Rattle.reg_model.proofs.laws.legal_journal_grows.Goals as goal

pub returns : goal.returns
returns c = legal-push
