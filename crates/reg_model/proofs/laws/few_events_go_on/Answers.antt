use Rattle.reg_model.proofs.PendingWatches.{few-pending, few-fired}
use Rattle.reg_model.proofs.laws.few_events_go_on.Goals as goal

pub returns-clause-pending : goal.returns-clause-pending
returns-clause-pending c = few-pending

pub returns-clause-fired : goal.returns-clause-fired
returns-clause-fired c = few-fired
