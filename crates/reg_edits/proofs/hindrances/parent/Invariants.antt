use Rattle.std.proofs.Common.{◌≡◌, length}
use Rattle.reg_edits.specs.KeyChanges.{parent_of}
use Rattle.reg_edits.proofs.hindrances.parent.Given as goal

abbrev pub invariant-loop-last : goal.invariant-loop-last
invariant-loop-last l = parent_of l.path ≡ parent_of l.rest

abbrev pub decreases-loop-last : goal.decreases-loop-last
decreases-loop-last l = length l.rest
