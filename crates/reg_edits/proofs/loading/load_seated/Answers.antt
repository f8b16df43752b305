use Rattle.reg_script.proofs.FailedCalls.{if_err}
use Rattle.reg_edits.proofs.LoadSteps.{opens, met, no_seats}
use Rattle.reg_edits.proofs.loading.load_seated.Goals as goal

pub returns-in_err-hive-clause-err : goal.returns-in_err-hive-clause-err
returns-in_err-hive-clause-err g c = if_err _ c.from_residual.result _ c.from_residual.ensures.1 (met _ _ _ c.in_err-hive.ensures.err)

pub returns-in-Ok-clause-ok : goal.returns-in-Ok-clause-ok
returns-in-Ok-clause-ok g c = opens _ _ _ _ _ c.in-Ok.ensures.hive c.in_ok-hive.ensures.ok

pub returns-in-Err-clause-err : goal.returns-in-Err-clause-err
returns-in-Err-clause-err g c = no_seats _ _ _ _ c.in_ok-hive.ensures.ok
