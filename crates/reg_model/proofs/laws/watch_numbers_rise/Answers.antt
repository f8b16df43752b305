use Rattle.reg_model.proofs.PendingWatches.{watches-below, watches-rise}
use Rattle.reg_model.proofs.laws.watch_numbers_rise.Goals as goal

pub returns-clause-below : goal.returns-clause-below
returns-clause-below c = watches-below

pub returns-clause-rise : goal.returns-clause-rise
returns-clause-rise c = watches-rise
