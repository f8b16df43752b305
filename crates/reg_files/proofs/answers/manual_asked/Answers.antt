use Rattle.std.proofs.Common.{refl}
use Rattle.reg_words.specs.Manuals.{IsManual}
use Rattle.reg_words.specs.declared.request.Request.TheVariants.{Manual}
use Rattle.reg_files.proofs.ToldTexts.{told_well}
use Rattle.reg_files.proofs.answers.manual_asked.Goals as goal

pub returns : goal.returns
returns g c =
    λ unread. told_well IsManual (g.W.Output.closed c.tell_text.new.output) _ _ _ _ _ _ Manual unread c.manual.result c.tell_text.result
    c.tell_text.ensures.status c.manual.ensures c.tell_text.ensures.told c.tell_text.ensures.stops (λ done. (refl, done.0, done.1))
    (λ stops. (refl, stops))
