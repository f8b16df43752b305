use Rattle.std.proofs.Common.{refl}
use Rattle.reg_script.proofs.ScriptEnds.{with_none, strict_stops}
use Rattle.reg_script.proofs.engine.run_strictly.Goals as goal

pub returns-in-Ok-clause-lines : goal.returns-in-Ok-clause-lines
returns-in-Ok-clause-lines g c = with_none _ _ _ _ _ _ _ _ _ _ (c.in-Ok.ensures.spared refl) c.in-Ok.ensures.lines

pub returns-in-Err-clause-stops : goal.returns-in-Err-clause-stops
returns-in-Err-clause-stops g c = strict_stops c.args.moment c.in-Err.fault _ _ _ _ _ _ _ c.in-Err.ensures.stops
