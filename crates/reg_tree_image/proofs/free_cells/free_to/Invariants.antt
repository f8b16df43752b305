use Rattle.std.proofs.Common.{◌-◌}
use Rattle.reg_tree_image.proofs.Anew.FreeSums.{IsFreeTo}
use Rattle.reg_tree_image.proofs.free_cells.free_to.Given as goal

abbrev pub invariant-loop-at : goal.invariant-loop-at
invariant-loop-at l = IsFreeTo l.arena.bytes l.from l.at l.stop l.free

abbrev pub decreases-loop-at : goal.decreases-loop-at
decreases-loop-at l = l.stop - l.at
