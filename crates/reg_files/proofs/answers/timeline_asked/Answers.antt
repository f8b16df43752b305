use Rattle.std.proofs.Common.{ap, map, refl}
use Rattle.reg_words.specs.declared.request.Request.TheVariants.{Timeline}
use Rattle.reg_files.proofs.ToldTimelines.{all_told}
use Rattle.reg_files.proofs.answers.timeline_asked.Goals as goal

pub returns : goal.returns
returns g c =
    λ unread. all_told (Timeline c.args.asked) c.args.asked.is_dirty
    (g.W.Output.closed c.tell_timeline.new.output) unread _ _ _ _ _ _ c.args.asked.from c.args.asked.to c.args.asked.form _ _ c.tell_timeline.result
    (ap (λ files. map (λ file. file.now) files) c.as_slice.ensures.value) c.tell_timeline.ensures.status c.tell_timeline.ensures.tells
    c.tell_timeline.ensures.fails (λ done. (refl, done)) (λ stops. (refl, stops))
