use Rattle.std.proofs.Common.{below_more}
use Rattle.reg_sessions.proofs.gathering.first_spot.Goals as goal

pub loop-h-preserved : goal.loop-h-preserved
loop-h-preserved g c = below_more _ _ c.loop-h.invariant c.in_default.ensures.none
