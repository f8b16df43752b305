use Rattle.std.proofs.Common.{[]}
use Rattle.reg_tree_text.proofs.SentTexts.{so_far_start, so_far_all, err_exits, exits}
use Rattle.reg_diff.specs.Differences.{diff_text}
use Rattle.reg_diff.proofs.BranchNames.{there_at}
use Rattle.reg_diff.proofs.SideSteps.{same-says}
use Rattle.reg_diff.proofs.diffing.write_diff.Goals as goal

pub returns-in_err-put_diff-clause-err : goal.returns-in_err-put_diff-clause-err
returns-in_err-put_diff-clause-err g c =
    λ p here there.
    err_exits _ _ _ c.from_residual.ensures.1
    (c.in_err-put_diff.ensures p here there (g.S.Sink.contents c.args.writer.now, g.S.Sink.failures c.args.writer.now)
    (diff_text c.args.ignored c.args.old.now.tree c.args.new.now.tree p) []
    (so_far_start _ (diff_text c.args.ignored c.args.old.now.tree c.args.new.now.tree p) _ _ c.new-output.ensures.gathered c.new-output.ensures.written)).0

pub returns-in_err-put_diff-clause-failures : goal.returns-in_err-put_diff-clause-failures
returns-in_err-put_diff-clause-failures g c =
    let p = c.requires.0 in
    let here = c.requires.1 in
    let there = c.requires.2 in
    exits _ _ _ _ c.from_residual.ensures.1
    (c.in_err-put_diff.ensures p here there (g.S.Sink.contents c.args.writer.now, g.S.Sink.failures c.args.writer.now)
    (diff_text c.args.ignored c.args.old.now.tree c.args.new.now.tree p) []
    (so_far_start _ (diff_text c.args.ignored c.args.old.now.tree c.args.new.now.tree p) _ _ c.new-output.ensures.gathered c.new-output.ensures.written)).1

pub returns-in_err-finish-clause-err : goal.returns-in_err-finish-clause-err
returns-in_err-finish-clause-err g c =
    λ p here there.
    err_exits _ _ _ c.from_residual-in_err-finish.ensures.1
    (c.in_err-finish.ensures.puts (g.S.Sink.contents c.args.writer.now, g.S.Sink.failures c.args.writer.now)
    (diff_text c.args.ignored c.args.old.now.tree c.args.new.now.tree p) []
    (c.in_ok-put_diff.ensures p here there (g.S.Sink.contents c.args.writer.now, g.S.Sink.failures c.args.writer.now)
    (diff_text c.args.ignored c.args.old.now.tree c.args.new.now.tree p) []
    (so_far_start _ (diff_text c.args.ignored c.args.old.now.tree c.args.new.now.tree p) _ _ c.new-output.ensures.gathered c.new-output.ensures.written))).0

pub returns-in_err-finish-clause-failures : goal.returns-in_err-finish-clause-failures
returns-in_err-finish-clause-failures g c =
    let p = c.requires.0 in
    let here = c.requires.1 in
    let there = c.requires.2 in
    exits _ _ _ _ c.from_residual-in_err-finish.ensures.1
    (c.in_err-finish.ensures.puts (g.S.Sink.contents c.args.writer.now, g.S.Sink.failures c.args.writer.now)
    (diff_text c.args.ignored c.args.old.now.tree c.args.new.now.tree p) []
    (c.in_ok-put_diff.ensures p here there (g.S.Sink.contents c.args.writer.now, g.S.Sink.failures c.args.writer.now)
    (diff_text c.args.ignored c.args.old.now.tree c.args.new.now.tree p) []
    (so_far_start _ (diff_text c.args.ignored c.args.old.now.tree c.args.new.now.tree p) _ _ c.new-output.ensures.gathered c.new-output.ensures.written))).1

pub returns-clause-ok : goal.returns-clause-ok
returns-clause-ok g c =
    λ p here there.
    so_far_all (g.S.Sink.contents c.args.writer.now, g.S.Sink.failures c.args.writer.now) _ (diff_text c.args.ignored c.args.old.now.tree c.args.new.now.tree p) _ _
    (c.in_ok-finish.ensures.puts (g.S.Sink.contents c.args.writer.now, g.S.Sink.failures c.args.writer.now)
    (diff_text c.args.ignored c.args.old.now.tree c.args.new.now.tree p) []
    (c.in_ok-put_diff.ensures p here there (g.S.Sink.contents c.args.writer.now, g.S.Sink.failures c.args.writer.now)
    (diff_text c.args.ignored c.args.old.now.tree c.args.new.now.tree p) []
    (so_far_start _ (diff_text c.args.ignored c.args.old.now.tree c.args.new.now.tree p) _ _ c.new-output.ensures.gathered c.new-output.ensures.written)))
    c.in_ok-finish.ensures.empty

pub returns-clause-same : goal.returns-clause-same
returns-clause-same g c =
    λ p here there.
    same-says c.args.ignored c.args.old.now.tree c.args.new.now.tree c.root-old_root.ensures.tree c.root-old_root.ensures.limits
    c.root-new_root.ensures.tree c.root-new_root.ensures.limits p (there_at c.args.old.now.tree c.args.path.now p here)
    (there_at c.args.new.now.tree c.args.path.now p there)
    (g.S.Sink.contents c.args.writer.now, g.S.Sink.failures c.args.writer.now) _ _ _
    (c.in_ok-put_diff.ensures p here there (g.S.Sink.contents c.args.writer.now, g.S.Sink.failures c.args.writer.now)
    (diff_text c.args.ignored c.args.old.now.tree c.args.new.now.tree p) []
    (so_far_start _ (diff_text c.args.ignored c.args.old.now.tree c.args.new.now.tree p) _ _ c.new-output.ensures.gathered c.new-output.ensures.written))
    c.is_untold-is_same.ensures

pub returns-clause-failures : goal.returns-clause-failures
returns-clause-failures g c =
    let p = c.requires.0 in
    let here = c.requires.1 in
    let there = c.requires.2 in
    (c.in_ok-finish.ensures.puts (g.S.Sink.contents c.args.writer.now, g.S.Sink.failures c.args.writer.now)
    (diff_text c.args.ignored c.args.old.now.tree c.args.new.now.tree p) []
    (c.in_ok-put_diff.ensures p here there (g.S.Sink.contents c.args.writer.now, g.S.Sink.failures c.args.writer.now)
    (diff_text c.args.ignored c.args.old.now.tree c.args.new.now.tree p) []
    (so_far_start _ (diff_text c.args.ignored c.args.old.now.tree c.args.new.now.tree p) _ _ c.new-output.ensures.gathered c.new-output.ensures.written))).stays
