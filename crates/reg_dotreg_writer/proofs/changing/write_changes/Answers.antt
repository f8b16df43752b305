use Rattle.std.proofs.Common.{[], ap, ◌∙◌, ◌++◌, List, ℕ, length}
use Rattle.reg_tree_text.proofs.SentTexts.{so_far_start, so_far_all, stops_full, err_exits, exits}
use Rattle.reg_tree_text.specs.Internal.Gathered.{WriterState}
use Rattle.reg_dotreg_writer.specs.Internal.Pieces.{head_pieces}
use Rattle.reg_dotreg_writer.specs.Internal.ChangePieces.{changes_pieces}
use Rattle.reg_dotreg_writer.proofs.FileSteps.{as_err}
use Rattle.reg_dotreg_writer.proofs.ChangeBytes.{changes-told}
use Rattle.reg_dotreg_writer.proofs.FileChanges.{body-next, none-says, as_appends}
use Rattle.reg_dotreg_writer.proofs.changing.write_changes.Goals as goal

pub returns-in_err-push_heading-clause-err : goal.returns-in_err-push_heading-clause-err
returns-in_err-push_heading-clause-err g c =
    let old = c.args.old.now.tree in
    let new = c.args.new.now.tree in
    let whole = changes_pieces c.args.is_utf8 old new in
    let begin : WriterState = (g.W.Sink.contents c.args.writer.now, g.W.Sink.failures c.args.writer.now) in
    as_err _ _ _ whole _ (changes-told old new c.root-old_root.ensures.limits c.root-new_root.ensures.limits c.args.is_utf8)
    (err_exits _ _ _ c.from_residual.ensures.1
    (stops_full begin _ whole _ _ _ (so_far_start begin whole _ _ c.new-output.ensures.gathered c.new-output.ensures.written)).0)

pub returns-in_err-push_heading-clause-failures : goal.returns-in_err-push_heading-clause-failures
returns-in_err-push_heading-clause-failures g c =
    let whole = changes_pieces c.args.is_utf8 c.args.old.now.tree c.args.new.now.tree in
    let begin : WriterState = (g.W.Sink.contents c.args.writer.now, g.W.Sink.failures c.args.writer.now) in
    exits _ _ _ _ c.from_residual.ensures.1
    (stops_full begin _ whole _ _ _ (so_far_start begin whole _ _ c.new-output.ensures.gathered c.new-output.ensures.written)).1

pub returns-in_err-put_changes-clause-err : goal.returns-in_err-put_changes-clause-err
returns-in_err-put_changes-clause-err g c =
    let old = c.args.old.now.tree in
    let new = c.args.new.now.tree in
    let whole = changes_pieces c.args.is_utf8 old new in
    let begin : WriterState = (g.W.Sink.contents c.args.writer.now, g.W.Sink.failures c.args.writer.now) in
    as_err _ _ _ whole _ (changes-told old new c.root-old_root.ensures.limits c.root-new_root.ensures.limits c.args.is_utf8)
    (err_exits _ _ _ c.from_residual-in_err-put_changes.ensures.1
    (c.in_err-put_changes.ensures begin whole []
    (body-next begin begin whole c.args.is_utf8 old new [] _ _ _
    (so_far_start begin whole _ _ c.new-output.ensures.gathered c.new-output.ensures.written) c.in_ok-push_heading.ensures)).0)

pub returns-in_err-put_changes-clause-failures : goal.returns-in_err-put_changes-clause-failures
returns-in_err-put_changes-clause-failures g c =
    let old = c.args.old.now.tree in
    let new = c.args.new.now.tree in
    let whole = changes_pieces c.args.is_utf8 old new in
    let begin : WriterState = (g.W.Sink.contents c.args.writer.now, g.W.Sink.failures c.args.writer.now) in
    exits _ _ _ _ c.from_residual-in_err-put_changes.ensures.1
    (c.in_err-put_changes.ensures begin whole []
    (body-next begin begin whole c.args.is_utf8 old new [] _ _ _
    (so_far_start begin whole _ _ c.new-output.ensures.gathered c.new-output.ensures.written) c.in_ok-push_heading.ensures)).1

pub returns-in_err-finish-clause-err : goal.returns-in_err-finish-clause-err
returns-in_err-finish-clause-err g c =
    let old = c.args.old.now.tree in
    let new = c.args.new.now.tree in
    let whole = changes_pieces c.args.is_utf8 old new in
    let begin : WriterState = (g.W.Sink.contents c.args.writer.now, g.W.Sink.failures c.args.writer.now) in
    as_err _ _ _ whole _ (changes-told old new c.root-old_root.ensures.limits c.root-new_root.ensures.limits c.args.is_utf8)
    (err_exits _ _ _ c.from_residual-in_err-finish.ensures.1
    (c.in_err-finish.ensures.puts begin whole []
    (c.in_ok-put_changes.ensures begin whole []
    (body-next begin begin whole c.args.is_utf8 old new [] _ _ _
    (so_far_start begin whole _ _ c.new-output.ensures.gathered c.new-output.ensures.written) c.in_ok-push_heading.ensures))).0)

pub returns-in_err-finish-clause-failures : goal.returns-in_err-finish-clause-failures
returns-in_err-finish-clause-failures g c =
    let old = c.args.old.now.tree in
    let new = c.args.new.now.tree in
    let whole = changes_pieces c.args.is_utf8 old new in
    let begin : WriterState = (g.W.Sink.contents c.args.writer.now, g.W.Sink.failures c.args.writer.now) in
    exits _ _ _ _ c.from_residual-in_err-finish.ensures.1
    (c.in_err-finish.ensures.puts begin whole []
    (c.in_ok-put_changes.ensures begin whole []
    (body-next begin begin whole c.args.is_utf8 old new [] _ _ _
    (so_far_start begin whole _ _ c.new-output.ensures.gathered c.new-output.ensures.written) c.in_ok-push_heading.ensures))).1

pub returns-clause-ok : goal.returns-clause-ok
returns-clause-ok g c =
    let old = c.args.old.now.tree in
    let new = c.args.new.now.tree in
    let whole = changes_pieces c.args.is_utf8 old new in
    let begin : WriterState = (g.W.Sink.contents c.args.writer.now, g.W.Sink.failures c.args.writer.now) in
    as_appends _ _ whole _ (changes-told old new c.root-old_root.ensures.limits c.root-new_root.ensures.limits c.args.is_utf8)
    (so_far_all begin _ whole _ _
    (c.in_ok-finish.ensures.puts begin whole []
    (c.in_ok-put_changes.ensures begin whole []
    (body-next begin begin whole c.args.is_utf8 old new [] _ _ _
    (so_far_start begin whole _ _ c.new-output.ensures.gathered c.new-output.ensures.written) c.in_ok-push_heading.ensures)))
    c.in_ok-finish.ensures.empty)

pub returns-clause-none : goal.returns-clause-none
returns-clause-none g c =
    let old = c.args.old.now.tree in
    let new = c.args.new.now.tree in
    let whole = changes_pieces c.args.is_utf8 old new in
    let begin : WriterState = (g.W.Sink.contents c.args.writer.now, g.W.Sink.failures c.args.writer.now) in
    none-says begin _ c.args.is_utf8 old new _ _ _
    (c.in_ok-put_changes.ensures begin whole []
    (body-next begin begin whole c.args.is_utf8 old new [] _ _ _
    (so_far_start begin whole _ _ c.new-output.ensures.gathered c.new-output.ensures.written) c.in_ok-push_heading.ensures))
    (c.len-heading.ensures
    ∙ (c.push_heading.new.bytes.ok.0
    ∙ ap length (c.in_ok-push_heading.ensures ∙ ap (λ (w : List ℕ). w ++ head_pieces c.args.is_utf8) c.new-output.ensures.gathered)))
    _ c.is_so_long-is_none.ensures

pub returns-clause-failures : goal.returns-clause-failures
returns-clause-failures g c =
    let old = c.args.old.now.tree in
    let new = c.args.new.now.tree in
    let whole = changes_pieces c.args.is_utf8 old new in
    let begin : WriterState = (g.W.Sink.contents c.args.writer.now, g.W.Sink.failures c.args.writer.now) in
    (c.in_ok-finish.ensures.puts begin whole []
    (c.in_ok-put_changes.ensures begin whole []
    (body-next begin begin whole c.args.is_utf8 old new [] _ _ _
    (so_far_start begin whole _ _ c.new-output.ensures.gathered c.new-output.ensures.written) c.in_ok-push_heading.ensures))).stays
