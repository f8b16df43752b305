use Rattle.std.proofs.Common.{refl}
use Rattle.reg_script.proofs.FailedCalls.{if_err}
use Rattle.reg_edits.proofs.Results.{match_err}
use Rattle.reg_edits.proofs.ImportSteps.{read_as, unread_ends, load_blames, unread_blames, apply_ends, apply_blames, imports}
use Rattle.reg_edits.proofs.importing.import.Goals as goal

-- the image doesn't load
pub returns-in_err-seated-clause-failures : goal.returns-in_err-seated-clause-failures
returns-in_err-seated-clause-failures g c =
    match_err _ _ c.from_residual.result _ c.from_residual.ensures.1 (load_blames _ _ _ _ c.in_err-seated.ensures.failures)

-- the text wasn't read to its end
pub returns-in_err-text-clause-err : goal.returns-in_err-text-clause-err
returns-in_err-text-clause-err g c =
    if_err _ c.from_residual-in_err-text.result _ c.from_residual-in_err-text.ensures.1
    (unread_ends c.in_err-text.field-0.0 _ _ _ _ _ _ _ _ _ c.in_ok-seated.ensures.ok c.in_err-text.ensures.err)

pub returns-in_err-text-clause-failures : goal.returns-in_err-text-clause-failures
returns-in_err-text-clause-failures g c =
    match_err _ _ c.from_residual-in_err-text.result _ c.from_residual-in_err-text.ensures.1
    (unread_blames c.in_err-text.field-0.0 _ _ _ _ _ _ c.in_err-text.ensures.err c.in_ok-seated.ensures.failures c.in_err-text.ensures.failures)

-- its entries weren't made
pub returns-in_err-apply_text-clause-err : goal.returns-in_err-apply_text-clause-err
returns-in_err-apply_text-clause-err g c =
    if_err _ c.from_residual-in_err-apply_text.result _ c.from_residual-in_err-apply_text.ensures.1
    (apply_ends c.in_err-apply_text.field-0.0 _ _ _ _ _ _ _ _ _ _ c.in_ok-seated.ensures.ok c.in_ok-text.ensures.ok.0
    (read_as _ _ _ _ c.as_slice.ensures.value c.in_ok-text.ensures.ok.1) c.in_err-apply_text.ensures.err)

pub returns-in_err-apply_text-clause-failures : goal.returns-in_err-apply_text-clause-failures
returns-in_err-apply_text-clause-failures g c =
    match_err _ _ c.from_residual-in_err-apply_text.result _ c.from_residual-in_err-apply_text.ensures.1
    (apply_blames c.in_err-apply_text.field-0.0 _ _ _ _ _ _ _ _ _ c.in_err-apply_text.ensures.err c.in_ok-seated.ensures.failures
    c.in_ok-text.ensures.failures)

pub returns-clause-ok : goal.returns-clause-ok
returns-clause-ok g c =
    imports _ _ _ _ _ _ _ _ _ _ c.in_ok-seated.ensures.ok c.in_ok-text.ensures.ok.0
    (read_as _ _ _ _ c.as_slice.ensures.value c.in_ok-text.ensures.ok.1) c.in_ok-apply_text.ensures.ok refl c.next_sequence.ensures c.is_changed-is_changed.ensures refl

pub returns-clause-failures : goal.returns-clause-failures
returns-clause-failures g c = (c.in_ok-seated.ensures.failures, c.in_ok-text.ensures.failures)
