use Rattle.reg_words.specs.declared.request.Request.TheVariants.{Edit}
use Rattle.reg_files.specs.Internal.Cuts.{is_save_end_cut}
use Rattle.reg_files.proofs.Outcomes.{settled}
use Rattle.reg_files.proofs.answers.edit_asked.Goals as goal

pub returns : goal.returns
returns g c =
    settled (Edit c.args.edit c.args.keeps_going) (g.W.Output.closed c.edit_file-done.new.output) _ _
    (g.W.Write.contents c.args.output.now) (g.W.Write.contents c.edit_file-done.new.output)
    (g.E.Sink.contents c.args.errors.now) (g.E.Sink.contents c.settle_save.new.errors)
    (g.E.Sink.failures c.args.errors.now) (g.E.Sink.failures c.settle_save.new.errors) is_save_end_cut _ _
    (g.W.Output.closed c.edit_file-done.new.output) c.edit_file-done.result
    c.settle_save.result c.settle_save.ensures c.edit_file-done.ensures.ok c.edit_file-done.ensures.err (λ done told. (done, told))
    (λ end stops told. (is_save_end_cut end, stops, told))
