use Rattle.std.proofs.Common.{[]}
use Rattle.reg_tables.specs.LongListings.{long_text}
use Rattle.reg_tree_text.proofs.SentTexts.{so_far_start, told_ok, told_err, told_failures, err_exits, exits}
use Rattle.reg_tables.proofs.long_listing.write_list.Goals as goal

pub returns-in_err-put_list-clause-err : goal.returns-in_err-put_list-clause-err
returns-in_err-put_list-clause-err g c =
    λ p at.
    err_exits _ _ _ c.from_residual.ensures.1
    (c.in_err-put_list.ensures p at (g.S.Sink.contents c.args.writer.now, g.S.Sink.failures c.args.writer.now) (long_text c.args.columns c.args.is_tree c.args.tree.now.tree p) []
    (so_far_start _ (long_text c.args.columns c.args.is_tree c.args.tree.now.tree p) _ _ c.new-output.ensures.gathered c.new-output.ensures.written)).0

pub returns-in_err-put_list-clause-failures : goal.returns-in_err-put_list-clause-failures
returns-in_err-put_list-clause-failures g c =
    let p = c.requires.0 in
    exits _ _ _ _ c.from_residual.ensures.1
    (c.in_err-put_list.ensures p c.requires.1 (g.S.Sink.contents c.args.writer.now, g.S.Sink.failures c.args.writer.now) (long_text c.args.columns c.args.is_tree c.args.tree.now.tree p) []
    (so_far_start _ (long_text c.args.columns c.args.is_tree c.args.tree.now.tree p) _ _ c.new-output.ensures.gathered c.new-output.ensures.written)).1

pub returns-clause-ok : goal.returns-clause-ok
returns-clause-ok g c =
    λ p at.
    told_ok (g.S.Sink.contents c.args.writer.now, g.S.Sink.failures c.args.writer.now) _ (long_text c.args.columns c.args.is_tree c.args.tree.now.tree p) _ _ _
    (c.finish.ensures.puts (g.S.Sink.contents c.args.writer.now, g.S.Sink.failures c.args.writer.now) (long_text c.args.columns c.args.is_tree c.args.tree.now.tree p) []
    (c.in_ok-put_list.ensures p at (g.S.Sink.contents c.args.writer.now, g.S.Sink.failures c.args.writer.now) (long_text c.args.columns c.args.is_tree c.args.tree.now.tree p) []
    (so_far_start _ (long_text c.args.columns c.args.is_tree c.args.tree.now.tree p) _ _ c.new-output.ensures.gathered c.new-output.ensures.written)))
    c.finish.ensures.empty

pub returns-clause-err : goal.returns-clause-err
returns-clause-err g c =
    λ p at.
    told_err (g.S.Sink.contents c.args.writer.now, g.S.Sink.failures c.args.writer.now) _ (long_text c.args.columns c.args.is_tree c.args.tree.now.tree p) _ _ c.finish.result
    (c.finish.ensures.puts (g.S.Sink.contents c.args.writer.now, g.S.Sink.failures c.args.writer.now) (long_text c.args.columns c.args.is_tree c.args.tree.now.tree p) []
    (c.in_ok-put_list.ensures p at (g.S.Sink.contents c.args.writer.now, g.S.Sink.failures c.args.writer.now) (long_text c.args.columns c.args.is_tree c.args.tree.now.tree p) []
    (so_far_start _ (long_text c.args.columns c.args.is_tree c.args.tree.now.tree p) _ _ c.new-output.ensures.gathered c.new-output.ensures.written)))

pub returns-clause-failures : goal.returns-clause-failures
returns-clause-failures g c =
    let p = c.requires.0 in
    told_failures (g.S.Sink.contents c.args.writer.now, g.S.Sink.failures c.args.writer.now) _ (long_text c.args.columns c.args.is_tree c.args.tree.now.tree p) _ _ c.finish.result
    (c.finish.ensures.puts (g.S.Sink.contents c.args.writer.now, g.S.Sink.failures c.args.writer.now) (long_text c.args.columns c.args.is_tree c.args.tree.now.tree p) []
    (c.in_ok-put_list.ensures p c.requires.1 (g.S.Sink.contents c.args.writer.now, g.S.Sink.failures c.args.writer.now) (long_text c.args.columns c.args.is_tree c.args.tree.now.tree p) []
    (so_far_start _ (long_text c.args.columns c.args.is_tree c.args.tree.now.tree p) _ _ c.new-output.ensures.gathered c.new-output.ensures.written)))
