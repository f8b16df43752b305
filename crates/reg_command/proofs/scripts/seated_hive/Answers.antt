use Rattle.reg_command.proofs.FreshHives.{seated_too}
use Rattle.reg_command.proofs.scripts.seated_hive.Goals as goal

pub returns-in-Ok : goal.returns-in-Ok
returns-in-Ok c = seated_too _ _ c.in-Ok.ensures.hive c.in-Ok.ensures.callbacks c.in_ok-hive.ensures
