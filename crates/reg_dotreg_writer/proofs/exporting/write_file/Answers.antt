use Rattle.std.proofs.Common.{[]}
use Rattle.reg_heap.specs.Edits.{folded_path}
use Rattle.reg_tree_text.proofs.SentTexts.{so_far_start, told_ok, told_err, told_failures, err_exits, exits}
use Rattle.reg_tree_text.specs.Internal.Gathered.{WriterState}
use Rattle.reg_dotreg_writer.specs.Internal.Pieces.{file_pieces}
use Rattle.reg_dotreg_writer.proofs.FileSteps.{as_ok, as_err}
use Rattle.reg_dotreg_writer.proofs.ToldNames.{value-bytes, file-told}
use Rattle.reg_dotreg_writer.proofs.exporting.write_file.Goals as goal

pub returns-in_err-put_file-clause-err : goal.returns-in_err-put_file-clause-err
returns-in_err-put_file-clause-err g c =
    let p = folded_path c.args.path.now in
    let whole = file_pieces c.args.is_utf8 c.args.root.now c.args.tree.now.tree p in
    let begin : WriterState = (g.W.Sink.contents c.args.writer.now, g.W.Sink.failures c.args.writer.now) in
    as_err _ _ _ whole _ (file-told c.args.tree.now.tree c.root-node.ensures.limits c.args.root.now (value-bytes c.args.root.now c.requires.allowed) c.args.is_utf8 p)
    (err_exits _ _ _ c.from_residual.ensures.1
    (c.in_err-put_file.ensures begin whole []
    (so_far_start begin whole _ _ c.new-output.ensures.gathered c.new-output.ensures.written)).0)

pub returns-clause-ok : goal.returns-clause-ok
returns-clause-ok g c =
    let p = folded_path c.args.path.now in
    let whole = file_pieces c.args.is_utf8 c.args.root.now c.args.tree.now.tree p in
    let begin : WriterState = (g.W.Sink.contents c.args.writer.now, g.W.Sink.failures c.args.writer.now) in
    as_ok _ _ _ whole _ (file-told c.args.tree.now.tree c.root-node.ensures.limits c.args.root.now (value-bytes c.args.root.now c.requires.allowed) c.args.is_utf8 p)
    (told_ok begin _ whole _ _ c.finish.result
    (c.finish.ensures.puts begin whole []
    (c.in_ok-put_file.ensures begin whole []
    (so_far_start begin whole _ _ c.new-output.ensures.gathered c.new-output.ensures.written)))
    c.finish.ensures.empty)

pub returns-clause-err : goal.returns-clause-err
returns-clause-err g c =
    let p = folded_path c.args.path.now in
    let whole = file_pieces c.args.is_utf8 c.args.root.now c.args.tree.now.tree p in
    let begin : WriterState = (g.W.Sink.contents c.args.writer.now, g.W.Sink.failures c.args.writer.now) in
    as_err _ _ _ whole _ (file-told c.args.tree.now.tree c.root-node.ensures.limits c.args.root.now (value-bytes c.args.root.now c.requires.allowed) c.args.is_utf8 p)
    (told_err begin _ whole _ _ c.finish.result
    (c.finish.ensures.puts begin whole []
    (c.in_ok-put_file.ensures begin whole []
    (so_far_start begin whole _ _ c.new-output.ensures.gathered c.new-output.ensures.written))))

pub returns-in_err-put_file-clause-failures : goal.returns-in_err-put_file-clause-failures
returns-in_err-put_file-clause-failures g c =
    let whole = file_pieces c.args.is_utf8 c.args.root.now c.args.tree.now.tree (folded_path c.args.path.now) in
    let begin : WriterState = (g.W.Sink.contents c.args.writer.now, g.W.Sink.failures c.args.writer.now) in
    exits _ _ _ _ c.from_residual.ensures.1
    (c.in_err-put_file.ensures begin whole []
    (so_far_start begin whole _ _ c.new-output.ensures.gathered c.new-output.ensures.written)).1

pub returns-clause-failures : goal.returns-clause-failures
returns-clause-failures g c =
    let whole = file_pieces c.args.is_utf8 c.args.root.now c.args.tree.now.tree (folded_path c.args.path.now) in
    let begin : WriterState = (g.W.Sink.contents c.args.writer.now, g.W.Sink.failures c.args.writer.now) in
    told_failures begin _ whole _ _ c.finish.result
    (c.finish.ensures.puts begin whole []
    (c.in_ok-put_file.ensures begin whole []
    (so_far_start begin whole _ _ c.new-output.ensures.gathered c.new-output.ensures.written)))
