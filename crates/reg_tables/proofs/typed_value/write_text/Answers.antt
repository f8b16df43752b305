use Rattle.std.proofs.Common.{[]}
use Rattle.reg_tree_text.proofs.SentTexts.{so_far_start, told_ok, told_err, told_failures, err_exits, exits}
use Rattle.reg_tables.proofs.typed_value.write_text.Goals as goal

pub returns-in_err-put_text-clause-err : goal.returns-in_err-put_text-clause-err
returns-in_err-put_text-clause-err g c =
    err_exits _ _ _ c.from_residual.ensures.1
    (c.in_err-put_text.ensures (g.S.Sink.contents c.args.writer.now, g.S.Sink.failures c.args.writer.now) c.args.text.now []
    (so_far_start _ c.args.text.now _ _ c.new-output.ensures.gathered c.new-output.ensures.written)).0

pub returns-in_err-put_text-clause-failures : goal.returns-in_err-put_text-clause-failures
returns-in_err-put_text-clause-failures g c =
    exits _ _ _ _ c.from_residual.ensures.1
    (c.in_err-put_text.ensures (g.S.Sink.contents c.args.writer.now, g.S.Sink.failures c.args.writer.now) c.args.text.now []
    (so_far_start _ c.args.text.now _ _ c.new-output.ensures.gathered c.new-output.ensures.written)).1

pub returns-clause-ok : goal.returns-clause-ok
returns-clause-ok g c =
    told_ok (g.S.Sink.contents c.args.writer.now, g.S.Sink.failures c.args.writer.now) _ c.args.text.now _ _ _
    (c.finish.ensures.puts (g.S.Sink.contents c.args.writer.now, g.S.Sink.failures c.args.writer.now) c.args.text.now []
    (c.in_ok-put_text.ensures (g.S.Sink.contents c.args.writer.now, g.S.Sink.failures c.args.writer.now) c.args.text.now []
    (so_far_start _ c.args.text.now _ _ c.new-output.ensures.gathered c.new-output.ensures.written)))
    c.finish.ensures.empty

pub returns-clause-err : goal.returns-clause-err
returns-clause-err g c =
    told_err (g.S.Sink.contents c.args.writer.now, g.S.Sink.failures c.args.writer.now) _ c.args.text.now _ _ c.finish.result
    (c.finish.ensures.puts (g.S.Sink.contents c.args.writer.now, g.S.Sink.failures c.args.writer.now) c.args.text.now []
    (c.in_ok-put_text.ensures (g.S.Sink.contents c.args.writer.now, g.S.Sink.failures c.args.writer.now) c.args.text.now []
    (so_far_start _ c.args.text.now _ _ c.new-output.ensures.gathered c.new-output.ensures.written)))

pub returns-clause-failures : goal.returns-clause-failures
returns-clause-failures g c =
    told_failures (g.S.Sink.contents c.args.writer.now, g.S.Sink.failures c.args.writer.now) _ c.args.text.now _ _ c.finish.result
    (c.finish.ensures.puts (g.S.Sink.contents c.args.writer.now, g.S.Sink.failures c.args.writer.now) c.args.text.now []
    (c.in_ok-put_text.ensures (g.S.Sink.contents c.args.writer.now, g.S.Sink.failures c.args.writer.now) c.args.text.now []
    (so_far_start _ c.args.text.now _ _ c.new-output.ensures.gathered c.new-output.ensures.written)))
