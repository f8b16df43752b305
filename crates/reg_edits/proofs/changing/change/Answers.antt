use Rattle.std.proofs.Common.{refl}
use Rattle.reg_script.proofs.FailedCalls.{if_err}
use Rattle.reg_edits.proofs.Results.{match_err}
use Rattle.reg_edits.proofs.ChangeSteps.{alter_ends, alter_blames, changes}
use Rattle.reg_edits.proofs.changing.change.Goals as goal

-- it wasn't made
pub returns-in_err-apply_change-clause-err : goal.returns-in_err-apply_change-clause-err
returns-in_err-apply_change-clause-err g c =
    if_err _ c.from_residual-in_err-apply_change.result _ c.from_residual-in_err-apply_change.ensures.1
    (alter_ends c.in_err-apply_change.field-0.0 _ _ _ _ _ _ c.in_ok-seated.ensures.ok c.in_err-apply_change.ensures.err)

pub returns-in_err-apply_change-clause-failures : goal.returns-in_err-apply_change-clause-failures
returns-in_err-apply_change-clause-failures g c =
    match_err _ _ c.from_residual-in_err-apply_change.result _ c.from_residual-in_err-apply_change.ensures.1
    (alter_blames c.in_err-apply_change.field-0.0 _ _ _ _ _ c.in_err-apply_change.ensures.err c.in_ok-seated.ensures.failures)

pub returns-clause-ok : goal.returns-clause-ok
returns-clause-ok g c =
    changes _ _ _ _ _ _ _ c.in_ok-seated.ensures.ok c.in_ok-apply_change.ensures.ok refl c.next_sequence.ensures c.is_changed-is_changed.ensures refl
