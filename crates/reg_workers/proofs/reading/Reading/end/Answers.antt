use Rattle.std.proofs.Common.{rules, refl}
use Rattle.reg_script.proofs.FailedCalls.{if_err}
use Rattle.reg_workers.proofs.ReadBytes.{whole_none, whole_last}
use Rattle.reg_workers.proofs.reading.Reading.end.Goals as goal

pub returns-then-is_empty-clause-ok : goal.returns-then-is_empty-clause-ok
returns-then-is_empty-clause-ok c = λ hives taken read. whole_none hives taken c.args.self.now (search rules) read

pub returns-clause-ok : goal.returns-clause-ok
returns-clause-ok c = λ hives taken read. whole_last hives taken c.args.self.now _ (search rules) c.in_ok-end_line.ensures read

pub returns-in_err-end_line-clause-err : goal.returns-in_err-end_line-clause-err
returns-in_err-end_line-clause-err c = if_err _ c.from_residual.result _ c.from_residual.ensures.1 refl
