use Rattle.std.proofs.Common.{◌≡◌, ◌-◌}
use Rattle.reg_arena.proofs.FreeList.TakenCells.{Goes}
use Rattle.reg_arena.proofs.adopt.list_free.Given as goal

abbrev pub invariant-loop-at : goal.invariant-loop-at
invariant-loop-at l = Goes l.initial.bins.items l.initial.lists l.bins.items l.lists l.from l.at l.stop × (l.bins.parts ≡ l.initial.bins.parts)

abbrev pub decreases-loop-at : goal.decreases-loop-at
decreases-loop-at l = l.stop - l.at
