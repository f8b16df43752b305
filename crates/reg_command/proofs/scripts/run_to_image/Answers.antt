use Rattle.std.proofs.Common.{OnOk}
use Rattle.std.specs.Prelude.{Result, Ok, Err}
use Rattle.reg_command.proofs.scripts.run_to_image.Goals as goal

on_ok : {A E : Type 0} (P Q : Type 0) (r : Result A E) → OnOk r (P → Q) → P → OnOk r Q
on_ok P Q (Ok x) f p = f p
on_ok P Q (Err e) f p = tt

pub returns-in-Ok-clause-ok : goal.returns-in-Ok-clause-ok
returns-in-Ok-clause-ok g c = on_ok _ _ c.image_after.result c.image_after.ensures.ok c.in-Ok.ensures
