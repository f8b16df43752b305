use Rattle.reg_model.proofs.PendingWatches.{watches-watch, watches-stand}
use Rattle.reg_model.proofs.laws.watches_stand.Goals as goal

pub returns-clause-handles : goal.returns-clause-handles
returns-clause-handles c = watches-watch

pub returns-clause-keys : goal.returns-clause-keys
returns-clause-keys c = watches-stand
