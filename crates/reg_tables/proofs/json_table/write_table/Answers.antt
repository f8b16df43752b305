use Rattle.std.proofs.Common.{[]}
use Rattle.reg_tables.specs.Internal.Layouts.{table_text}
use Rattle.reg_tree_text.proofs.SentTexts.{so_far_start, told_ok, told_err, told_failures, err_exits, exits}
use Rattle.reg_tables.proofs.json_table.write_table.Goals as goal

pub returns-in_err-put_table-clause-err : goal.returns-in_err-put_table-clause-err
returns-in_err-put_table-clause-err g c =
    λ p key.
    err_exits _ _ _ c.from_residual.ensures.1
    (c.in_err-put_table.ensures p key (g.S.Sink.contents c.args.writer.now, g.S.Sink.failures c.args.writer.now) (table_text c.args.layout c.args.tree.now.tree p) []
    (so_far_start _ (table_text c.args.layout c.args.tree.now.tree p) _ _ c.new-output.ensures.gathered c.new-output.ensures.written)).0

pub returns-clause-ok : goal.returns-clause-ok
returns-clause-ok g c =
    λ p key.
    told_ok (g.S.Sink.contents c.args.writer.now, g.S.Sink.failures c.args.writer.now) _ (table_text c.args.layout c.args.tree.now.tree p) _ _ _
    (c.finish.ensures.puts (g.S.Sink.contents c.args.writer.now, g.S.Sink.failures c.args.writer.now) (table_text c.args.layout c.args.tree.now.tree p) []
    (c.in_ok-put_table.ensures p key (g.S.Sink.contents c.args.writer.now, g.S.Sink.failures c.args.writer.now) (table_text c.args.layout c.args.tree.now.tree p) []
    (so_far_start _ (table_text c.args.layout c.args.tree.now.tree p) _ _ c.new-output.ensures.gathered c.new-output.ensures.written)))
    c.finish.ensures.empty

pub returns-clause-err : goal.returns-clause-err
returns-clause-err g c =
    λ p key.
    told_err (g.S.Sink.contents c.args.writer.now, g.S.Sink.failures c.args.writer.now) _ (table_text c.args.layout c.args.tree.now.tree p) _ _ c.finish.result
    (c.finish.ensures.puts (g.S.Sink.contents c.args.writer.now, g.S.Sink.failures c.args.writer.now) (table_text c.args.layout c.args.tree.now.tree p) []
    (c.in_ok-put_table.ensures p key (g.S.Sink.contents c.args.writer.now, g.S.Sink.failures c.args.writer.now) (table_text c.args.layout c.args.tree.now.tree p) []
    (so_far_start _ (table_text c.args.layout c.args.tree.now.tree p) _ _ c.new-output.ensures.gathered c.new-output.ensures.written)))

pub returns-in_err-put_table-clause-failures : goal.returns-in_err-put_table-clause-failures
returns-in_err-put_table-clause-failures g c =
    let p = c.requires.0 in
    let key = c.requires.1 in
    exits _ _ _ _ c.from_residual.ensures.1
    (c.in_err-put_table.ensures p key (g.S.Sink.contents c.args.writer.now, g.S.Sink.failures c.args.writer.now) (table_text c.args.layout c.args.tree.now.tree p) []
    (so_far_start _ (table_text c.args.layout c.args.tree.now.tree p) _ _ c.new-output.ensures.gathered c.new-output.ensures.written)).1

pub returns-clause-failures : goal.returns-clause-failures
returns-clause-failures g c =
    let p = c.requires.0 in
    let key = c.requires.1 in
    told_failures (g.S.Sink.contents c.args.writer.now, g.S.Sink.failures c.args.writer.now) _ (table_text c.args.layout c.args.tree.now.tree p) _ _ c.finish.result
    (c.finish.ensures.puts (g.S.Sink.contents c.args.writer.now, g.S.Sink.failures c.args.writer.now) (table_text c.args.layout c.args.tree.now.tree p) []
    (c.in_ok-put_table.ensures p key (g.S.Sink.contents c.args.writer.now, g.S.Sink.failures c.args.writer.now) (table_text c.args.layout c.args.tree.now.tree p) []
    (so_far_start _ (table_text c.args.layout c.args.tree.now.tree p) _ _ c.new-output.ensures.gathered c.new-output.ensures.written)))
