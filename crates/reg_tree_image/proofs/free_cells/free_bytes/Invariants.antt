use Rattle.std.proofs.Common.{◌-◌, length}
use Rattle.reg_tree_image.proofs.Anew.FreeSums.{IsFreeBefore}
use Rattle.reg_tree_image.proofs.free_cells.free_bytes.Given as goal

abbrev pub invariant-loop-at : goal.invariant-loop-at
invariant-loop-at l = IsFreeBefore l.arena.bytes l.at l.free

abbrev pub decreases-loop-at : goal.decreases-loop-at
decreases-loop-at l = length l.arena.bytes - l.at
