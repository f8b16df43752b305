use Rattle.std.proofs.Common.{refl, false}
use Rattle.reg_words.specs.declared.request.Request.TheVariants.{Import}
use Rattle.reg_files.specs.Internal.Cuts.{is_save_end_cut}
use Rattle.reg_files.proofs.EditedFiles.{text_entered, text_stopped}
use Rattle.reg_files.proofs.Outcomes.{settled}
use Rattle.reg_files.proofs.answers.import_asked.Goals as goal

pub returns : goal.returns
returns g c =
    λ closed before. settled (Import c.args.edit c.args.text c.args.prefix c.args.tells_all) closed _ _ before before
    (g.E.Sink.contents c.args.errors.now)
    (g.E.Sink.contents c.settle_import.new.errors) (g.E.Sink.failures c.args.errors.now) (g.E.Sink.failures c.settle_import.new.errors)
    is_save_end_cut _ _ false c.import_text-done.result c.settle_import.result c.settle_import.ensures c.import_text-done.ensures.ok
    c.import_text-done.ensures.err (λ done told. (text_entered _ _ c.args.edit c.args.tells_all _ _ _ c.front_of.ensures done, refl, told))
    (λ _ stops told. (text_stopped _ _ c.args.edit c.args.tells_all _ _ _ c.front_of.ensures stops, refl, told))
