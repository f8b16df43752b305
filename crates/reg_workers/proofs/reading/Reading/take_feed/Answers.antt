use Rattle.std.proofs.Common.{inl, refl}
use Rattle.reg_script.proofs.FailedCalls.{if_err}
use Rattle.reg_script.proofs.ScriptHalts.{few_lines, many_lines}
use Rattle.reg_workers.proofs.ReadBytes.{feed_read, cut_feed}
use Rattle.reg_workers.proofs.reading.Reading.take_feed.Goals as goal

pub returns-then-self-ge-LINES_LIMIT-clause-err : goal.returns-then-self-ge-LINES_LIMIT-clause-err
returns-then-self-ge-LINES_LIMIT-clause-err c = λ hives taken read. cut_feed hives taken _ (many_lines _ c.if-self-ge-LINES_LIMIT.true) read

pub returns-in_err-end_line-clause-err : goal.returns-in_err-end_line-clause-err
returns-in_err-end_line-clause-err c = if_err _ c.from_residual.result _ c.from_residual.ensures.1 (λ hives taken read. inl refl)

pub returns-clause-ok : goal.returns-clause-ok
returns-clause-ok c = λ hives taken read. feed_read hives taken _ _ (few_lines _ c.if-self-ge-LINES_LIMIT.false) c.in_ok-end_line.ensures read
