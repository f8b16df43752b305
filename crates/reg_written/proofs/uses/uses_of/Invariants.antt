use Rattle.std.proofs.Common.{length, ◌-◌, take}
use Rattle.std.specs.Ordering.{nat_cmp}
use Rattle.std.specs.BTreeMap.{get}
use Rattle.reg_written.specs.Internal.RingWalks.{AreUses}
use Rattle.reg_written.proofs.uses.uses_of.Given as goal

abbrev pub invariant-loop-start : goal.invariant-loop-start
invariant-loop-start l = AreUses (get nat_cmp l.uses) (take l.start l.used)

abbrev pub decreases-loop-start : goal.decreases-loop-start
decreases-loop-start l = length l.used - l.start
