use Rattle.std.proofs.Common.{refl}
use Rattle.reg_text.proofs.FailureCounts.{stays-at}
use Rattle.reg_queries.proofs.ChangeSteps.{exports, stopped, blamed}
use Rattle.reg_queries.proofs.changing.export_changes.Goals as goal

pub returns-in-Err-clause-err : goal.returns-in-Err-clause-err
returns-in-Err-clause-err g c = (c.in-Err.ensures.err, refl, refl)

pub returns-clause-ok : goal.returns-clause-ok
returns-clause-ok g c =
    exports _ _ _ _ _ c.in-Ok.ensures.ok _ _ _ c.root.ensures.tree c.root.ensures.limits c.export_from.result c.export_from.ensures.ok

pub returns-clause-err : goal.returns-clause-err
returns-clause-err g c = stopped _ _ _ _ _ c.in-Ok.ensures.ok _ _ _ c.export_from.result c.export_from.ensures.err

pub returns-in-Err-clause-failures : goal.returns-in-Err-clause-failures
returns-in-Err-clause-failures g c = (c.in-Err.ensures.failures, (stays-at _, stays-at _))

pub returns-clause-failures : goal.returns-clause-failures
returns-clause-failures g c = blamed _ _ _ _ _ _ c.in-Ok.ensures.failures c.export_from.result c.export_from.ensures.failures
