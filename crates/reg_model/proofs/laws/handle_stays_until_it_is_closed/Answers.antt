use Rattle.reg_model.proofs.HandlesUntilClosed.{handle-stays, number-closed}
use Rattle.reg_model.proofs.laws.handle_stays_until_it_is_closed.Goals as goal

pub returns-clause-stays : goal.returns-clause-stays
returns-clause-stays c = handle-stays

pub returns-clause-closed : goal.returns-clause-closed
returns-clause-closed c = number-closed
