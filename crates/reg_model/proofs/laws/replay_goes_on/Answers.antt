use Rattle.reg_model.proofs.JournalGrowth.{replay-push}
use Rattle.reg_model.proofs.laws.replay_goes_on.Goals as goal

pub returns : goal.returns
returns c = replay-push
