use Rattle.reg_script.proofs.ScriptEnds.{without_moment}
use Rattle.reg_script.proofs.engine.run.Goals as goal

pub returns-in-Ok-clause-lines : goal.returns-in-Ok-clause-lines
returns-in-Ok-clause-lines g c = without_moment _ _ _ _ _ _ _ _ c.in-Ok.ensures.lines
