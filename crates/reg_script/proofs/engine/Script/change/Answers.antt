use Rattle.std.proofs.Common.{refl}
use Rattle.reg_model.specs.declared.call.Call.TheVariants.{Change}
use Rattle.reg_script.specs.ReplyTexts.{changed_text, asks_watch}
use Rattle.reg_script.proofs.LinesThatFail.{change_answered}
use Rattle.reg_script.proofs.ProgressLemmas.{stand_kept, told_as}
use Rattle.reg_script.proofs.engine.Script.change.Goals as goal

pub returns-clause-said : goal.returns-clause-said
returns-clause-said g c = (
  changed_text (asks_watch (Change c.args.change)) c.apply_by-changed.result,
  change_answered _ _ c.args.change c.apply_by-changed.result _ c.went_with.ensures c.apply_by-changed.ensures.applied
      (stand_kept g.C.Callback.answers _ _ _ _ _ c.apply_by-changed.ensures.callbacks),
  told_as _ _ _ _ _ _ c.write_changed.ensures c.reserve.ensures.bytes c.is_notify-watches.ensures,
  refl,
)
