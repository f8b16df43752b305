use Rattle.reg_script.proofs.ScriptEnds.{without_count}
use Rattle.reg_script.proofs.engine.run_to.Goals as goal

pub returns-in-Ok-clause-lines : goal.returns-in-Ok-clause-lines
returns-in-Ok-clause-lines g c = without_count _ _ _ _ _ _ _ _ _ _ c.in-Ok.ensures.lines
