use Rattle.std.proofs.Common.{refl, ◌∷◌, []}
use Rattle.reg_script.proofs.FailedCalls.{if_err}
use Rattle.reg_script.proofs.ProgressLemmas.{takes_ended, takes_settled}
use Rattle.reg_script.specs.Internal.Progress.{among}
use Rattle.reg_script.proofs.ScriptHalts.{halts_here, halts_line, halts_passing, too_many_lines, few_lines, many_lines}
use Rattle.reg_script.proofs.engine.Script.take_feed.Goals as goal

pub returns-then-self-ge-LINES_LIMIT-clause-err : goal.returns-then-self-ge-LINES_LIMIT-clause-err
returns-then-self-ge-LINES_LIMIT-clause-err g c =
    λ steady. halts_here _ _ _ _ steady refl
    (record { gathered = refl; sent = refl; written = refl }, too_many_lines _ _ _ steady.few (many_lines _ c.if-self-ge-LINES_LIMIT.true))

pub returns-in_err-end_line-clause-err : goal.returns-in_err-end_line-clause-err
returns-in_err-end_line-clause-err g c = if_err _ c.from_residual.result _ c.from_residual.ensures.1
    (λ steady. halts_line _ _ 10 _ refl steady (few_lines _ c.if-self-ge-LINES_LIMIT.false)
    (c.in_err-end_line.ensures.err (g.W.Write.contents c.args.writer.now)))

pub returns-in_err-settle-clause-err : goal.returns-in_err-settle-clause-err
returns-in_err-settle-clause-err g c = if_err _ c.from_residual-in_err-settle.result _ c.from_residual-in_err-settle.ensures.1
    (λ steady.
    let t = takes_ended _ _ 10 refl steady (few_lines _ c.if-self-ge-LINES_LIMIT.false)
    (c.in_ok-end_line.ensures.ok (g.W.Write.contents c.args.writer.now)) in
    halts_passing among _ _ _ _ _ t refl c.in_err-settle.ensures.err)

pub returns-clause-ok : goal.returns-clause-ok
returns-clause-ok g c =
    λ steady.
    let t = takes_ended _ _ 10 refl steady (few_lines _ c.if-self-ge-LINES_LIMIT.false)
    (c.in_ok-end_line.ensures.ok (g.W.Write.contents c.args.writer.now)) in
    takes_settled _ _ (10 ∷ []) _ _ _ t c.in_ok-settle.ensures.sent
