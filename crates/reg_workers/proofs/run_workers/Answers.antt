use Rattle.std.proofs.Common.{refl}
use Rattle.reg_script.proofs.FailedCalls.{if_err}
use Rattle.reg_workers.proofs.WorkersEnd.{stopped_reading, stopped_working, ran, stopped_writing}
use Rattle.reg_workers.proofs.run_workers.Goals as goal

pub work-requires-clause-planned : goal.work-requires-clause-planned
work-requires-clause-planned g c κs within = (_, c.in_ok-plan.ensures.ok.2.planned)

pub returns-in_err-plan-clause-err : goal.returns-in_err-plan-clause-err
returns-in_err-plan-clause-err g c =
    if_err _ c.from_residual.result _ c.from_residual.ensures.1 (stopped_reading c.args.hives _ _ _ _ _ refl c.in_err-plan.ensures.err)

pub returns-in_err-work-clause-err : goal.returns-in_err-work-clause-err
returns-in_err-work-clause-err g c =
    if_err _ c.from_residual-in_err-work.result _ c.from_residual-in_err-work.ensures.1
    (stopped_working c.args.hives c.in_ok-plan.ensures.ok.0 _ _ _ _ c.in_ok-plan.ensures.ok.1 refl)

pub returns-in_err-finish-clause-err : goal.returns-in_err-finish-clause-err
returns-in_err-finish-clause-err g c =
    let h = c.in_ok-plan.ensures.ok in
    let t = c.in_ok-work.ensures _ h.2.planned in
    if_err _ c.from_residual-in_err-finish.result _ c.from_residual-in_err-finish.ensures.1
    (stopped_writing c.args.hives h.0 _ _ _ _ _ _ _ t.0 c.in_ok-plan.ensures.at_end h.1 h.2 t.1 t.2 c.new-text.ensures.gathered _ _ c.new-text.ensures.written
    c.in_err-finish.ensures.err)

pub returns-clause-ok : goal.returns-clause-ok
returns-clause-ok g c =
    let h = c.in_ok-plan.ensures.ok in
    let t = c.in_ok-work.ensures _ h.2.planned in
    ran c.args.hives h.0 _ _ _ _ _ _ _ t.0 c.in_ok-plan.ensures.at_end h.1 h.2 t.1 t.2 c.new-text.ensures.gathered c.in_ok-finish.ensures.sent
