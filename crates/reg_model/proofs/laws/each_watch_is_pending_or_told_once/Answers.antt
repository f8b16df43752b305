use Rattle.reg_model.proofs.ToldOnce.{pending-or-told}
use Rattle.reg_model.proofs.laws.each_watch_is_pending_or_told_once.Goals as goal

pub returns : goal.returns
returns c = λ origin journal session number. pending-or-told session number origin journal
