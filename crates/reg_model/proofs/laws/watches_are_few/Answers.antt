use Rattle.reg_model.proofs.PendingWatches.{watches-few}
use Rattle.reg_model.proofs.laws.watches_are_few.Goals as goal

pub returns : goal.returns
returns c = watches-few
