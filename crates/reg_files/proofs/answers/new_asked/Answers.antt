use Rattle.std.proofs.Common.{refl, false}
use Rattle.std.specs.Prelude.{⊤}
use Rattle.reg_words.specs.declared.request.Request.TheVariants.{New}
use Rattle.reg_files.specs.Internal.Cuts.{is_cut}
use Rattle.reg_files.proofs.Outcomes.{settled, any_done, any_stop}
use Rattle.reg_files.proofs.answers.new_asked.Goals as goal

pub returns : goal.returns
returns g c =
    λ closed unread before. settled (New c.args.file c.args.name) closed unread unread before before (g.E.Sink.contents c.args.errors.now)
    (g.E.Sink.contents c.settle.new.errors) (g.E.Sink.failures c.args.errors.now) (g.E.Sink.failures c.settle.new.errors) is_cut ⊤
    (λ _. ⊤) false c.new_file-done.result c.settle.result c.settle.ensures (any_done c.new_file-done.result) (any_stop c.new_file-done.result)
    (λ done told. ((refl, refl), told)) (λ _ _ told. ((refl, refl), told))
