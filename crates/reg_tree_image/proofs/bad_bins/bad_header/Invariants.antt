use Rattle.std.proofs.Common.{length, ◌-◌}
use Rattle.reg_tree_image.proofs.NamedCells.BadBins.{IsHeaded}
use Rattle.reg_tree_image.proofs.bad_bins.bad_header.Given as goal

abbrev pub invariant-loop-at : goal.invariant-loop-at
invariant-loop-at l = IsHeaded l.bins l.at

abbrev pub decreases-loop-at : goal.decreases-loop-at
decreases-loop-at l = length l.bins - l.at
