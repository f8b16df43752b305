use Rattle.std.proofs.Common.{refl, None}
use Rattle.std.proofs.lemmas.Result.{IfErr-weaker, IfOk-weaker}
use Rattle.reg_command.proofs.CommandSteps.{none_asked, leads, stops_fresh, image_stops}
use Rattle.reg_command.proofs.scripts.image_after.Goals as goal

pub returns-in-Ok-clause-ok : goal.returns-in-Ok-clause-ok
returns-in-Ok-clause-ok g c =
    IfOk-weaker c.send_image.result _ _
    (λ done sent fresh. record {
      last = _;
      moment = c.in-Ok.moment;
      leads = leads _ _ _ _ _ fresh.fresh (none_asked g.C.Callback.answers _ fresh.alone) c.in-Ok.ensures.at_end c.in-Ok.moment None None c.in-Ok.ensures.lines;
      appended = sent;
    })
    c.send_image.ensures.ok

pub returns-in-Ok-clause-err : goal.returns-in-Ok-clause-err
returns-in-Ok-clause-err g c =
    IfErr-weaker c.send_image.result _ _
    (λ stop ended fresh.
    image_stops c.args.sequence _ c.in-Ok.moment stop _ _ _ _
    (leads _ _ _ _ _ fresh.fresh (none_asked g.C.Callback.answers _ fresh.alone) c.in-Ok.ensures.at_end c.in-Ok.moment None None c.in-Ok.ensures.lines) ended)
    c.send_image.ensures.err

pub returns-in-Err-clause-err : goal.returns-in-Err-clause-err
returns-in-Err-clause-err g c =
    λ fresh. (
      None,
      None,
      stops_fresh c.in-Err.fault _ _ _ _ _ _ _ fresh.fresh (none_asked g.C.Callback.answers _ fresh.alone) c.in-Err.ensures.stops,
      refl,
    )
