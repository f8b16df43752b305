use Rattle.std.proofs.Common.{[], ◌∙◌}
use Rattle.reg_tree_text.specs.Internal.Gathered.{WriterState}
use Rattle.reg_find.specs.Findings.{found_text}
use Rattle.reg_tree_text.proofs.SentTexts.{so_far_start, so_far_all, err_exits, exits}
use Rattle.reg_find.proofs.FoundKeys.{told_some}
use Rattle.reg_find.proofs.finding.find.Goals as goal

pub returns-in_err-put_tree-clause-err : goal.returns-in_err-put_tree-clause-err
returns-in_err-put_tree-clause-err g c =
    let text = found_text (g.P.Pattern.matches c.args.pattern.now) c.args.scope c.args.tree.now.tree in
    err_exits _ _ _ c.from_residual.ensures.1
    (c.in_err-put_tree.ensures (g.S.Sink.contents c.args.writer.now, g.S.Sink.failures c.args.writer.now) text []
    (so_far_start _ text _ _ c.new-output.ensures.gathered c.new-output.ensures.written)).0

pub returns-in_err-put_tree-clause-failures : goal.returns-in_err-put_tree-clause-failures
returns-in_err-put_tree-clause-failures g c =
    let text = found_text (g.P.Pattern.matches c.args.pattern.now) c.args.scope c.args.tree.now.tree in
    exits _ _ _ _ c.from_residual.ensures.1
    (c.in_err-put_tree.ensures (g.S.Sink.contents c.args.writer.now, g.S.Sink.failures c.args.writer.now) text []
    (so_far_start _ text _ _ c.new-output.ensures.gathered c.new-output.ensures.written)).1

pub returns-in-Ok-clause-ok : goal.returns-in-Ok-clause-ok
returns-in-Ok-clause-ok g c =
    let begin : WriterState = (g.S.Sink.contents c.args.writer.now, g.S.Sink.failures c.args.writer.now) in
    let text = found_text (g.P.Pattern.matches c.args.pattern.now) c.args.scope c.args.tree.now.tree in
    so_far_all begin _ text _ _
    (c.in-Ok.ensures.puts begin text []
    (c.in_ok-put_tree.ensures begin text [] (so_far_start _ text _ _ c.new-output.ensures.gathered c.new-output.ensures.written)))
    c.in-Ok.ensures.empty

pub returns-in-Ok-clause-found : goal.returns-in-Ok-clause-found
returns-in-Ok-clause-found g c =
    let begin : WriterState = (g.S.Sink.contents c.args.writer.now, g.S.Sink.failures c.args.writer.now) in
    let text = found_text (g.P.Pattern.matches c.args.pattern.now) c.args.scope c.args.tree.now.tree in
    c.has_told-is_found.ensures ∙ told_some begin _ text _ _
    (c.in_ok-put_tree.ensures begin text [] (so_far_start _ text _ _ c.new-output.ensures.gathered c.new-output.ensures.written))

pub returns-in-Ok-clause-failures : goal.returns-in-Ok-clause-failures
returns-in-Ok-clause-failures g c =
    let begin : WriterState = (g.S.Sink.contents c.args.writer.now, g.S.Sink.failures c.args.writer.now) in
    let text = found_text (g.P.Pattern.matches c.args.pattern.now) c.args.scope c.args.tree.now.tree in
    (c.in-Ok.ensures.puts begin text []
    (c.in_ok-put_tree.ensures begin text [] (so_far_start _ text _ _ c.new-output.ensures.gathered c.new-output.ensures.written))).stays

pub returns-clause-err : goal.returns-clause-err
returns-clause-err g c =
    let begin : WriterState = (g.S.Sink.contents c.args.writer.now, g.S.Sink.failures c.args.writer.now) in
    let text = found_text (g.P.Pattern.matches c.args.pattern.now) c.args.scope c.args.tree.now.tree in
    (c.in-Err.ensures.puts begin text []
    (c.in_ok-put_tree.ensures begin text [] (so_far_start _ text _ _ c.new-output.ensures.gathered c.new-output.ensures.written))).0

pub returns-clause-failures : goal.returns-clause-failures
returns-clause-failures g c =
    let begin : WriterState = (g.S.Sink.contents c.args.writer.now, g.S.Sink.failures c.args.writer.now) in
    let text = found_text (g.P.Pattern.matches c.args.pattern.now) c.args.scope c.args.tree.now.tree in
    (c.in-Err.ensures.puts begin text []
    (c.in_ok-put_tree.ensures begin text [] (so_far_start _ text _ _ c.new-output.ensures.gathered c.new-output.ensures.written))).1
