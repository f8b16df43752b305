use Rattle.std.proofs.Common.{◌≡◌, ◌-◌, length}
use Rattle.reg_arena.proofs.FreeList.TakenBins.{GoesBins}
use Rattle.reg_arena.proofs.adopt.list_all_free.Given as goal

abbrev pub invariant-loop-at : goal.invariant-loop-at
invariant-loop-at l = GoesBins l.initial.bins.items l.initial.lists l.bins.items l.lists l.at × (l.bins.parts ≡ l.initial.bins.parts) × (length l.bins.items ≡ length l.initial.bins.items)

abbrev pub decreases-loop-at : goal.decreases-loop-at
decreases-loop-at l = length l.bins.items - l.at
