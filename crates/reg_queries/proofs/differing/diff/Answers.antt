use Rattle.std.proofs.Common.{refl}
use Rattle.reg_text.proofs.FailureCounts.{stays-at}
use Rattle.reg_queries.proofs.DiffSteps.{differ, stopped, blamed}
use Rattle.reg_queries.proofs.differing.diff.Goals as goal

pub returns-in-Err-clause-err : goal.returns-in-Err-clause-err
returns-in-Err-clause-err g c = (c.in-Err.ensures.err, refl, refl)

pub returns-clause-ok : goal.returns-clause-ok
returns-clause-ok g c = differ c.args.path.now c.args.ignored _ _ _ _ _ c.in-Ok.ensures.ok _ _ c.diff_from.result c.diff_from.ensures.ok

pub returns-clause-err : goal.returns-clause-err
returns-clause-err g c = stopped c.args.path.now c.args.ignored _ _ _ _ _ c.in-Ok.ensures.ok _ _ c.diff_from.result c.diff_from.ensures.err

pub returns-in-Err-clause-failures : goal.returns-in-Err-clause-failures
returns-in-Err-clause-failures g c = (c.in-Err.ensures.failures, (stays-at _, stays-at _))

pub returns-clause-failures : goal.returns-clause-failures
returns-clause-failures g c = blamed _ _ _ _ _ _ c.in-Ok.ensures.failures c.diff_from.result c.diff_from.ensures.failures
