use Rattle.std.proofs.Common.{◌-◌}
use Rattle.reg_written.proofs.CellsApart.{OnCells}
use Rattle.reg_written.proofs.arena.are_apart.Given as goal

abbrev pub invariant-loop-at : goal.invariant-loop-at
invariant-loop-at l = OnCells l.bins l.from l.at l.stop l.behind

abbrev pub decreases-loop-at : goal.decreases-loop-at
decreases-loop-at l = l.stop - l.at
