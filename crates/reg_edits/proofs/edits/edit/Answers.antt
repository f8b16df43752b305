use Rattle.std.proofs.Common.{refl}
use Rattle.reg_script.proofs.FailedCalls.{if_err}
use Rattle.reg_edits.proofs.Results.{match_err}
use Rattle.reg_edits.proofs.EditSteps.{stopped, none_blamed, edits}
use Rattle.reg_edits.proofs.edits.edit.Goals as goal

-- the script ended early
pub returns-in_err-ran-clause-err : goal.returns-in_err-ran-clause-err
returns-in_err-ran-clause-err g c =
    if_err _ c.from_residual-in_err-ran.result _ c.from_residual-in_err-ran.ensures.1
    (stopped c.in_err-ran.field-0.0 _ _ _ _ _ _ _ _ _ _ c.in_ok-seated.ensures.ok c.in_err-ran.ensures.err)

pub returns-in_err-ran-clause-failures : goal.returns-in_err-ran-clause-failures
returns-in_err-ran-clause-failures g c =
    match_err _ _ c.from_residual-in_err-ran.result _ c.from_residual-in_err-ran.ensures.1
    (none_blamed c.in_err-ran.field-0.0 _ _ _ _ _ _ _ _ _ c.in_err-ran.ensures.err c.in_ok-seated.ensures.failures)

pub returns-clause-ok : goal.returns-clause-ok
returns-clause-ok g c =
    edits _ _ _ _ _ _ _ _ _ _ _ _ _ c.in_ok-seated.ensures.ok c.in_ok-ran.ensures.ok refl refl
    c.next_sequence.ensures c.is_changed-is_changed.ensures
