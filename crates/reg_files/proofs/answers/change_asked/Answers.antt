use Rattle.std.proofs.Common.{refl}
use Rattle.reg_words.specs.declared.request.Request.TheVariants.{Change}
use Rattle.reg_files.specs.Internal.Cuts.{is_save_end_cut}
use Rattle.reg_files.proofs.Outcomes.{settled}
use Rattle.reg_files.proofs.answers.change_asked.Goals as goal

pub returns : goal.returns
returns g c =
    λ unread. settled (Change c.args.edit c.args.change) (g.W.Output.closed c.change_file-done.new.output) unread unread
    (g.W.Write.contents c.args.output.now) (g.W.Write.contents c.change_file-done.new.output)
    (g.E.Sink.contents c.args.errors.now) (g.E.Sink.contents c.settle_save.new.errors)
    (g.E.Sink.failures c.args.errors.now) (g.E.Sink.failures c.settle_save.new.errors) is_save_end_cut _ _
    (g.W.Output.closed c.change_file-done.new.output) c.change_file-done.result
    c.settle_save.result c.settle_save.ensures c.change_file-done.ensures.ok c.change_file-done.ensures.err (λ done told. (refl, done, told))
    (λ end stops told. (refl, (is_save_end_cut end, stops, told)))
