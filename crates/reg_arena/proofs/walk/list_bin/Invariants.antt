use Rattle.std.proofs.Common.{◌-◌}
use Rattle.reg_arena.proofs.Tiling.CellWalkSteps.{Walked}
use Rattle.reg_arena.proofs.walk.list_bin.Given as goal

abbrev pub invariant-loop-at : goal.invariant-loop-at
invariant-loop-at l = Walked l.bins.items l.from l.at l.stop l.initial.cells.items l.cells.items

abbrev pub decreases-loop-at : goal.decreases-loop-at
decreases-loop-at l = l.stop - l.at
