use Rattle.reg_script.proofs.FailedCalls.{if_err}
use Rattle.reg_edits.proofs.EditSteps.{none_asked}
use Rattle.reg_edits.proofs.ChangeSteps.{alters, call_refused}
use Rattle.reg_edits.proofs.changing.apply_entries.Goals as goal

pub returns-in_err-entries-clause-err : goal.returns-in_err-entries-clause-err
returns-in_err-entries-clause-err g c = if_err _ c.from_residual.result _ c.from_residual.ensures.1 c.requires.free

pub returns-in-Ok-clause-ok : goal.returns-in-Ok-clause-ok
returns-in-Ok-clause-ok g c = alters _ _ _ _ _ c.requires.free c.in_ok-entries.ensures c.in-Ok.ensures.ok c.in-Ok.ensures.calls

pub returns-in-Err-clause-err : goal.returns-in-Err-clause-err
returns-in-Err-clause-err g c =
    call_refused _ _ _ _ _ _ c.requires.free c.in_ok-entries.ensures (none_asked g.C.Callback.answers _ c.requires.callbacks)
    c.len.ensures.hive c.in-Err.ensures.err
