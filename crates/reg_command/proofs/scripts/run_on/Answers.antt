use Rattle.reg_command.proofs.CommandSteps.{none_asked, runs, stops_fresh}
use Rattle.reg_command.proofs.scripts.run_on.Goals as goal

pub returns-in-Ok-clause-ok : goal.returns-in-Ok-clause-ok
returns-in-Ok-clause-ok g c =
    λ fresh. runs _ _ _ _ _ fresh.fresh (none_asked g.C.Callback.answers _ fresh.alone) c.in-Ok.ensures.at_end _ _ c.in-Ok.ensures.lines

pub returns-in-Err-clause-err : goal.returns-in-Err-clause-err
returns-in-Err-clause-err g c =
    λ fresh. stops_fresh c.in-Err.ended _ _ _ _ _ _ _ fresh.fresh (none_asked g.C.Callback.answers _ fresh.alone) c.in-Err.ensures.stops
