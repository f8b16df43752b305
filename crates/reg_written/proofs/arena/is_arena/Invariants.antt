use Rattle.std.proofs.Common.{length, ◌-◌}
use Rattle.reg_written.proofs.ArenaBins.{OnBins}
use Rattle.reg_written.proofs.arena.is_arena.Given as goal

abbrev pub invariant-loop-at : goal.invariant-loop-at
invariant-loop-at l = OnBins l.bins l.at

abbrev pub decreases-loop-at : goal.decreases-loop-at
decreases-loop-at l = length l.bins - l.at
