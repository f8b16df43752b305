use Rattle.std.proofs.Common.{◌-◌, length}
use Rattle.reg_arena.proofs.Tiling.CellWalkSteps.{WalkedBins}
use Rattle.reg_arena.proofs.walk.list_cells.Given as goal

abbrev pub invariant-loop-at : goal.invariant-loop-at
invariant-loop-at l = WalkedBins l.bins.items l.at l.cells.items

abbrev pub decreases-loop-at : goal.decreases-loop-at
decreases-loop-at l = length l.bins.items - l.at
