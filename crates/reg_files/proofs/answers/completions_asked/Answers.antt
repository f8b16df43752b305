use Rattle.std.proofs.Common.{refl}
use Rattle.reg_words.specs.Completions.{AreCompletions}
use Rattle.reg_words.specs.declared.request.Request.TheVariants.{Completions}
use Rattle.reg_files.proofs.ToldTexts.{told_well}
use Rattle.reg_files.proofs.answers.completions_asked.Goals as goal

pub returns : goal.returns
returns g c =
    λ unread. told_well (AreCompletions c.args.shell) (g.W.Output.closed c.tell_text.new.output) _ _ _ _ _ _ (Completions c.args.shell) unread
    c.completions.result c.tell_text.result c.tell_text.ensures.status c.completions.ensures c.tell_text.ensures.told c.tell_text.ensures.stops
    (λ done. (refl, done.0, done.1)) (λ stops. (refl, stops))
