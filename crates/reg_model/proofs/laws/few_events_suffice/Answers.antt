use Rattle.reg_model.proofs.PendingWatches.{few-suffice}
use Rattle.reg_model.proofs.laws.few_events_suffice.Goals as goal

pub returns : goal.returns
returns c = few-suffice
