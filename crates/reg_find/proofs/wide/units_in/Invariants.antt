use Rattle.std.proofs.Common.{◌≡◌, ◌++◌, length}
use Rattle.reg_find.specs.Findings.{units_in}
use Rattle.reg_find.proofs.wide.units_in.Given as goal

abbrev pub invariant-loop-rest : goal.invariant-loop-rest
invariant-loop-rest l = units_in l.bytes ≡ l.units.items ++ units_in l.rest

abbrev pub decreases-loop-rest : goal.decreases-loop-rest
decreases-loop-rest l = length l.rest
