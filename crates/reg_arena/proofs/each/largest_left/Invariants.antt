use Rattle.reg_heap.specs.declared.limits.TheConstants.{NONE}
use Rattle.reg_arena.proofs.Carving.LargestLeft.{IsLargest}
use Rattle.reg_arena.proofs.each.largest_left.Given as goal

abbrev pub invariant-loop-place : goal.invariant-loop-place
invariant-loop-place l = IsLargest NONE l.sizes l.offsets l.place l.most l.largest
