use Rattle.reg_model.proofs.JournalGrowth.{pending-push}
use Rattle.reg_model.proofs.laws.pending_goes_on.Goals as goal

pub returns : goal.returns
returns c = pending-push
