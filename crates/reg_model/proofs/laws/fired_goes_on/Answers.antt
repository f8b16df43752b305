use Rattle.reg_model.proofs.JournalGrowth.{fired-push}
use Rattle.reg_model.proofs.laws.fired_goes_on.Goals as goal

pub returns : goal.returns
returns c = fired-push
