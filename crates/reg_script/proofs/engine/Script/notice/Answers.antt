use Rattle.std.proofs.Common.{refl, ap, ◌∙◌, ◌++◌, length}
use Rattle.reg_script.specs.ReplyTexts.{notice_text}
use Rattle.reg_script.proofs.ProgressLemmas.{stand_kept}
use Rattle.reg_script.proofs.engine.Script.notice.Goals as goal

pub returns-clause-said : goal.returns-clause-said
returns-clause-said g c = (
  notice_text c.take_notice-notice.result,
  (
    (c.take_notice-notice.result, c.take_notice-notice.ensures.notice, refl, stand_kept g.C.Callback.answers _ _ _ _ _ c.take_notice-notice.ensures.callbacks),
    ap (λ w. length w) c.take_notice-notice.ensures.notice.journal,
  ),
  c.write_notice.ensures ∙ ap (λ w. w ++ notice_text c.take_notice-notice.result) c.reserve.ensures.bytes,
  refl,
)
