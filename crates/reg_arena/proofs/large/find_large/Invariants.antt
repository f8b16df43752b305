use Rattle.reg_arena.proofs.FreeList.FreeListWalk.{Passed}
use Rattle.reg_arena.proofs.large.find_large.Given as goal

abbrev pub invariant-loop-i : goal.invariant-loop-i
invariant-loop-i l = Passed l.bins.items l.total l.count l.head l._i l.cell
