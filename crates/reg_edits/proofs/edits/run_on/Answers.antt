use Rattle.std.proofs.Common.{refl}
use Rattle.reg_edits.proofs.EditSteps.{none_asked, leads, any_number, halts, halts_strictly, ends_at_line}
use Rattle.reg_edits.proofs.edits.run_on.Goals as goal

pub returns-in-Ok-clause-ok : goal.returns-in-Ok-clause-ok
returns-in-Ok-clause-ok g c =
    leads _ _ _ _ _ _ _ _ _ (none_asked g.C.Callback.answers _ c.requires) _ _ (any_number _ _ c.if-keeps_going.true)
    c.in-Ok.ensures.at_end c.in-Ok.ensures.lines

pub returns-in-Err-clause-err : goal.returns-in-Err-clause-err
returns-in-Err-clause-err g c =
    halts _ _ _ _ _ _ _ _ _ (none_asked g.C.Callback.answers _ c.requires) c.in-Err.fault c.if-keeps_going.true c.in-Err.ensures.stops

pub returns-in-Ok-run_strictly-clause-ok : goal.returns-in-Ok-run_strictly-clause-ok
returns-in-Ok-run_strictly-clause-ok g c =
    leads _ _ _ _ _ _ _ _ _ (none_asked g.C.Callback.answers _ c.requires) _ 0 (λ strict. refl)
    c.in-Ok-run_strictly.ensures.at_end c.in-Ok-run_strictly.ensures.lines

pub returns-in-Err-Script-clause-err : goal.returns-in-Err-Script-clause-err
returns-in-Err-Script-clause-err g c =
    halts_strictly _ _ _ _ _ _ _ _ _ (none_asked g.C.Callback.answers _ c.requires) c.in-Err-Script.field-0 c.if-keeps_going.false
    c.in-Err-Script.ensures.stops c.in-Err-Script.fault c.in-Err-Script.field-0-is

pub returns-in-Err-Line-clause-err : goal.returns-in-Err-Line-clause-err
returns-in-Err-Line-clause-err g c =
    ends_at_line _ _ _ _ _ _ _ _ _ (none_asked g.C.Callback.answers _ c.requires) c.in-Err-Line.field-0 c.if-keeps_going.false
    c.in-Err-Line.ensures.stops c.in-Err-Line.line c.in-Err-Line.field-0-is
