use Rattle.std.proofs.Common.{[], map}
use Rattle.reg_tree_text.proofs.SentTexts.{so_far_start, told_ok, told_err, told_failures, err_exits, exits}
use Rattle.reg_tables.specs.Timelines.{timed, ordered_text}
use Rattle.reg_tables.proofs.timeline.write_keys.Goals as goal

pub returns-in_err-put_timeline-clause-err : goal.returns-in_err-put_timeline-clause-err
returns-in_err-put_timeline-clause-err g c =
    let text = ordered_text c.args.form (map (λ n. n.now) c.args.names.now) (map timed c.args.keys.now) in
    err_exits _ _ _ c.from_residual.ensures.1
    (c.in_err-put_timeline.ensures (g.S.Sink.contents c.args.writer.now, g.S.Sink.failures c.args.writer.now) text []
    (so_far_start _ text _ _ c.new-output.ensures.gathered c.new-output.ensures.written)).0

pub returns-in_err-put_timeline-clause-failures : goal.returns-in_err-put_timeline-clause-failures
returns-in_err-put_timeline-clause-failures g c =
    let text = ordered_text c.args.form (map (λ n. n.now) c.args.names.now) (map timed c.args.keys.now) in
    exits _ _ _ _ c.from_residual.ensures.1
    (c.in_err-put_timeline.ensures (g.S.Sink.contents c.args.writer.now, g.S.Sink.failures c.args.writer.now) text []
    (so_far_start _ text _ _ c.new-output.ensures.gathered c.new-output.ensures.written)).1

pub returns-clause-ok : goal.returns-clause-ok
returns-clause-ok g c =
    let text = ordered_text c.args.form (map (λ n. n.now) c.args.names.now) (map timed c.args.keys.now) in
    told_ok (g.S.Sink.contents c.args.writer.now, g.S.Sink.failures c.args.writer.now) _ text _ _ _
    (c.finish.ensures.puts (g.S.Sink.contents c.args.writer.now, g.S.Sink.failures c.args.writer.now) text []
    (c.in_ok-put_timeline.ensures (g.S.Sink.contents c.args.writer.now, g.S.Sink.failures c.args.writer.now) text []
    (so_far_start _ text _ _ c.new-output.ensures.gathered c.new-output.ensures.written)))
    c.finish.ensures.empty

pub returns-clause-err : goal.returns-clause-err
returns-clause-err g c =
    let text = ordered_text c.args.form (map (λ n. n.now) c.args.names.now) (map timed c.args.keys.now) in
    told_err (g.S.Sink.contents c.args.writer.now, g.S.Sink.failures c.args.writer.now) _ text _ _ c.finish.result
    (c.finish.ensures.puts (g.S.Sink.contents c.args.writer.now, g.S.Sink.failures c.args.writer.now) text []
    (c.in_ok-put_timeline.ensures (g.S.Sink.contents c.args.writer.now, g.S.Sink.failures c.args.writer.now) text []
    (so_far_start _ text _ _ c.new-output.ensures.gathered c.new-output.ensures.written)))

pub returns-clause-failures : goal.returns-clause-failures
returns-clause-failures g c =
    let text = ordered_text c.args.form (map (λ n. n.now) c.args.names.now) (map timed c.args.keys.now) in
    told_failures (g.S.Sink.contents c.args.writer.now, g.S.Sink.failures c.args.writer.now) _ text _ _ c.finish.result
    (c.finish.ensures.puts (g.S.Sink.contents c.args.writer.now, g.S.Sink.failures c.args.writer.now) text []
    (c.in_ok-put_timeline.ensures (g.S.Sink.contents c.args.writer.now, g.S.Sink.failures c.args.writer.now) text []
    (so_far_start _ text _ _ c.new-output.ensures.gathered c.new-output.ensures.written)))
