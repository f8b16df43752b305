use Rattle.std.proofs.Common.{length, ◌-◌}
use Rattle.reg_tree_image.proofs.NamedCells.BinScans.{AreGood}
use Rattle.reg_tree_image.proofs.scan.are_headers.Given as goal

abbrev pub invariant-loop-at : goal.invariant-loop-at
invariant-loop-at l = AreGood l.bins l.at

abbrev pub decreases-loop-at : goal.decreases-loop-at
decreases-loop-at l = length l.bins - l.at
