use Rattle.std.proofs.Common.{[]}
use Rattle.reg_tree_text.specs.DumpTexts.{dump_text}
use Rattle.reg_tree_text.proofs.SentTexts.{so_far_start, told_ok, told_err, told_failures, err_exits, exits}
use Rattle.reg_tree_text.proofs.dumping.dump.Goals as goal

pub returns-in_err-put_tree-clause-err : goal.returns-in_err-put_tree-clause-err
returns-in_err-put_tree-clause-err g c =
    err_exits _ _ _ c.from_residual.ensures.1
    (c.in_err-put_tree.ensures (g.W.Sink.contents c.args.writer.now, g.W.Sink.failures c.args.writer.now) (dump_text c.args.tree.now.tree) []
    (so_far_start _ (dump_text c.args.tree.now.tree) _ _ c.new-output.ensures.gathered c.new-output.ensures.written)).0

pub returns-in_err-put_tree-clause-failures : goal.returns-in_err-put_tree-clause-failures
returns-in_err-put_tree-clause-failures g c =
    exits _ _ _ _ c.from_residual.ensures.1
    (c.in_err-put_tree.ensures (g.W.Sink.contents c.args.writer.now, g.W.Sink.failures c.args.writer.now) (dump_text c.args.tree.now.tree) []
    (so_far_start _ (dump_text c.args.tree.now.tree) _ _ c.new-output.ensures.gathered c.new-output.ensures.written)).1

pub returns-clause-ok : goal.returns-clause-ok
returns-clause-ok g c =
    told_ok (g.W.Sink.contents c.args.writer.now, g.W.Sink.failures c.args.writer.now) _ (dump_text c.args.tree.now.tree) _ _ _
    (c.finish.ensures.puts (g.W.Sink.contents c.args.writer.now, g.W.Sink.failures c.args.writer.now) (dump_text c.args.tree.now.tree) []
    (c.in_ok-put_tree.ensures (g.W.Sink.contents c.args.writer.now, g.W.Sink.failures c.args.writer.now) (dump_text c.args.tree.now.tree) []
    (so_far_start _ (dump_text c.args.tree.now.tree) _ _ c.new-output.ensures.gathered c.new-output.ensures.written)))
    c.finish.ensures.empty

pub returns-clause-err : goal.returns-clause-err
returns-clause-err g c =
    told_err (g.W.Sink.contents c.args.writer.now, g.W.Sink.failures c.args.writer.now) _ (dump_text c.args.tree.now.tree) _ _ c.finish.result
    (c.finish.ensures.puts (g.W.Sink.contents c.args.writer.now, g.W.Sink.failures c.args.writer.now) (dump_text c.args.tree.now.tree) []
    (c.in_ok-put_tree.ensures (g.W.Sink.contents c.args.writer.now, g.W.Sink.failures c.args.writer.now) (dump_text c.args.tree.now.tree) []
    (so_far_start _ (dump_text c.args.tree.now.tree) _ _ c.new-output.ensures.gathered c.new-output.ensures.written)))

pub returns-clause-failures : goal.returns-clause-failures
returns-clause-failures g c =
    told_failures (g.W.Sink.contents c.args.writer.now, g.W.Sink.failures c.args.writer.now) _ (dump_text c.args.tree.now.tree) _ _
    c.finish.result
    (c.finish.ensures.puts (g.W.Sink.contents c.args.writer.now, g.W.Sink.failures c.args.writer.now) (dump_text c.args.tree.now.tree) []
    (c.in_ok-put_tree.ensures (g.W.Sink.contents c.args.writer.now, g.W.Sink.failures c.args.writer.now) (dump_text c.args.tree.now.tree) []
    (so_far_start _ (dump_text c.args.tree.now.tree) _ _ c.new-output.ensures.gathered c.new-output.ensures.written)))
