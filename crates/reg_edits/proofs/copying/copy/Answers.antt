use Rattle.std.proofs.Common.{refl}
use Rattle.reg_text.proofs.FailureCounts.{stays-at}
use Rattle.reg_edits.proofs.CopySteps.{copies, ended, blamed}
use Rattle.reg_edits.proofs.copying.copy.Goals as goal

pub returns-in-Err-clause-err : goal.returns-in-Err-clause-err
returns-in-Err-clause-err g c = (c.in-Err.ensures.err, refl)

pub returns-in-Err-clause-failures : goal.returns-in-Err-clause-failures
returns-in-Err-clause-failures g c = (c.in-Err.ensures.failures, stays-at _)

pub returns-clause-ok : goal.returns-clause-ok
returns-clause-ok g c = copies _ _ _ _ _ c.in-Ok.ensures.ok _ _ _ c.copy_from.result c.copy_from.ensures.ok

pub returns-clause-err : goal.returns-clause-err
returns-clause-err g c = ended _ _ _ _ _ c.in-Ok.ensures.ok _ _ c.copy_from.result c.copy_from.ensures.err

pub returns-clause-failures : goal.returns-clause-failures
returns-clause-failures g c = blamed _ _ _ _ c.in-Ok.ensures.failures c.copy_from.result c.copy_from.ensures.failures
