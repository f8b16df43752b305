use Rattle.std.proofs.Common.{rules}
use Rattle.reg_script.proofs.FailedCalls.{if_err, on_err}
use Rattle.reg_script.proofs.ProgressLemmas.{ends_line}
use Rattle.reg_script.proofs.engine.Script.end.Goals as goal

pub returns-clause-ok : goal.returns-clause-ok
returns-clause-ok g c = λ no_feed sent. ends_line _ _ (search rules) no_feed (c.in_ok-end_line.ensures.ok sent)

pub returns-in_err-end_line-clause-begun : goal.returns-in_err-end_line-clause-begun
returns-in_err-end_line-clause-begun g c = on_err c.from_residual.result (search rules)

pub returns-in_err-end_line-clause-err : goal.returns-in_err-end_line-clause-err
returns-in_err-end_line-clause-err g c = if_err _ c.from_residual.result _ c.from_residual.ensures.1 c.in_err-end_line.ensures.err
