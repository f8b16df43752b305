use Rattle.std.proofs.Common.{length, ◌-◌}
use Rattle.reg_tree_image.proofs.Devices.ImageParts.{IsFilledTo}
use Rattle.reg_tree_image.proofs.parts.fill_bins.Given as goal

abbrev pub invariant-loop-done : goal.invariant-loop-done
invariant-loop-done l = IsFilledTo l.arena.bytes l.initial.room l.from l.done l.room

abbrev pub decreases-loop-done : goal.decreases-loop-done
decreases-loop-done l = length l.initial.room - l.done
