use Rattle.std.specs.Prelude.{option_copied}
use Rattle.reg_edits.proofs.EditSteps.{none_asked}
use Rattle.reg_script.proofs.FailedCalls.{if_err}
use Rattle.reg_edits.proofs.TextFaults.{text_not_read}
use Rattle.reg_edits.proofs.ImportSteps.{applies, entry_stops}
use Rattle.reg_edits.proofs.importing.apply_text.Goals as goal

pub returns-in_err-entries-clause-err : goal.returns-in_err-entries-clause-err
returns-in_err-entries-clause-err g c =
    if_err _ c.from_residual.result _ c.from_residual.ensures.1
    (text_not_read c.in_err-entries.field-0.0 (option_copied c.args.front) c.args.tells_all c.args.moment _ _ c.in_err-entries.ensures.err)

pub returns-in-Ok-clause-ok : goal.returns-in-Ok-clause-ok
returns-in-Ok-clause-ok g c = applies _ _ _ _ _ _ c.in_ok-entries.ensures.ok c.in-Ok.ensures.ok c.in-Ok.ensures.calls

pub returns-in-Err-clause-err : goal.returns-in-Err-clause-err
returns-in-Err-clause-err g c =
    entry_stops (option_copied c.args.front) c.args.tells_all _ _ _ _ _ _ c.in_ok-entries.ensures.ok (none_asked g.C.Callback.answers _ c.requires)
    c.len.ensures.hive c.in-Err.ensures.err
