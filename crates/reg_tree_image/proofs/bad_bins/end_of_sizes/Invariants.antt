use Rattle.std.proofs.Common.{◌-◌}
use Rattle.reg_tree_image.proofs.NamedCells.BadBins.{IsSized}
use Rattle.reg_tree_image.proofs.bad_bins.end_of_sizes.Given as goal

abbrev pub invariant-loop-at : goal.invariant-loop-at
invariant-loop-at l = IsSized l.bins l.from l.at l.stop

abbrev pub decreases-loop-at : goal.decreases-loop-at
decreases-loop-at l = l.stop - l.at
