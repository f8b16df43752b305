use Rattle.std.proofs.Common.{List, ℕ, ap, map, subst, ◌∙◌}
use Rattle.std.specs.Prelude.{OnOk, IfErr}
use Rattle.std.specs.Io.KnownBytes.{Appends}
use Rattle.reg_tree_text.specs.DumpFronts.{IsStopped}
use Rattle.reg_tree_text.proofs.SentTexts.{appends_none, err_exits, exits}
use Rattle.reg_text.proofs.FailureCounts.{stays-at}
use Rattle.reg_tables.specs.Timelines.{timed}
use Rattle.reg_tables.proofs.TimelineTexts.{timeline-told}
use Rattle.reg_tables.proofs.timeline.Timeline.write.Goals as goal

pub returns-in_err-keys-clause-err : goal.returns-in_err-keys-clause-err
returns-in_err-keys-clause-err g c = λ trees from to h. err_exits _ _ _ c.from_residual.ensures.1 (0, appends_none _)

pub returns-in_err-keys-clause-failures : goal.returns-in_err-keys-clause-failures
returns-in_err-keys-clause-failures g c = exits _ _ _ _ c.from_residual.ensures.1 (stays-at _)

pub returns-clause-ok : goal.returns-clause-ok
returns-clause-ok g c =
    λ trees from to h.
    subst (λ (text : List ℕ). OnOk c.write_keys.result (Appends (g.S.Sink.contents c.args.writer.now) (g.S.Sink.contents c.write_keys.new.writer) text))
    (timeline-told c.args.form (map (λ n. n.now) c.args.names.now) c.args.self trees from to h (map timed c.deref.result.now)
    (ap (map timed) c.deref.ensures.value ∙ c.in_ok-keys.ensures)) c.write_keys.ensures.ok

pub returns-clause-err : goal.returns-clause-err
returns-clause-err g c =
    λ trees from to h.
    subst
    (λ (text : List ℕ). IfErr c.write_keys.result
    (λ fault. IsStopped (g.S.Sink.contents c.args.writer.now) (g.S.Sink.contents c.write_keys.new.writer) text fault))
    (timeline-told c.args.form (map (λ n. n.now) c.args.names.now) c.args.self trees from to h (map timed c.deref.result.now)
    (ap (map timed) c.deref.ensures.value ∙ c.in_ok-keys.ensures)) c.write_keys.ensures.err
