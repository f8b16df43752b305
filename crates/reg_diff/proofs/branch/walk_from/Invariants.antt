use Rattle.std.proofs.Common.{length}
use Rattle.reg_diff.proofs.BranchNames.{IsOnWay}
use Rattle.reg_diff.proofs.branch.walk_from.Given as goal

abbrev pub invariant-loop-name : goal.invariant-loop-name
invariant-loop-name l = IsOnWay l.tree l.path l.walk l.rest

abbrev pub decreases-loop-name : goal.decreases-loop-name
decreases-loop-name l = length l.rest
