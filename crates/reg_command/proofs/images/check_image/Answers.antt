use Rattle.std.proofs.lemmas.Result.{IfErr-weaker, IfOk-weaker}
use Rattle.reg_tree_text.specs.DumpTexts.{check_text}
use Rattle.reg_command.proofs.CommandSteps.{writes_text, text_stops, fault_reported}
use Rattle.reg_command.proofs.images.check_image.Goals as goal

pub returns-in-Ok-clause-ok : goal.returns-in-Ok-clause-ok
returns-in-Ok-clause-ok g c =
    IfOk-weaker c.send_counts.result _ _ (λ done sent. writes_text check_text _ _ _ _ _ c.in-Ok.ensures.ok sent) c.send_counts.ensures.ok

pub returns-in-Ok-clause-err : goal.returns-in-Ok-clause-err
returns-in-Ok-clause-err g c =
    IfErr-weaker c.send_counts.result _ _ (λ stop ended. text_stops check_text _ _ _ _ _ stop c.in-Ok.ensures.ok ended) c.send_counts.ensures.err

pub returns-in-Err-clause-err : goal.returns-in-Err-clause-err
returns-in-Err-clause-err g c = fault_reported check_text _ _ _ _ c.in-Err.fault c.send_fault.result c.in-Err.ensures.err c.send_fault.ensures
