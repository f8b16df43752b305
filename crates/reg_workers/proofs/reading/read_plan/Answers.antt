use Rattle.std.proofs.Common.{[]}
use Rattle.reg_script.proofs.FailedCalls.{if_err}
use Rattle.reg_script.proofs.ProgressLemmas.{consumes_none}
use Rattle.reg_workers.proofs.ReadBytes.{no_memory}
use Rattle.reg_workers.proofs.reading.read_plan.Goals as goal

pub returns-in_default-clause-err : goal.returns-in_default-clause-err
returns-in_default-clause-err g c = no_memory [] _ _ (consumes_none _)

pub returns-in_err-reading-clause-err : goal.returns-in_err-reading-clause-err
returns-in_err-reading-clause-err g c = if_err _ c.from_residual.result _ c.from_residual.ensures.1 (no_memory [] _ _ (consumes_none _))

pub returns-in_err-read_all-clause-err : goal.returns-in_err-read_all-clause-err
returns-in_err-read_all-clause-err g c =
    if_err _ c.from_residual-in_err-read_all.result _ c.from_residual-in_err-read_all.ensures.1 (c.in_err-read_all.ensures.err c.args.hives c.in_ok-reading.ensures)

pub returns-clause-ok : goal.returns-clause-ok
returns-clause-ok g c = c.in_ok-read_all.ensures.ok c.args.hives c.in_ok-reading.ensures
