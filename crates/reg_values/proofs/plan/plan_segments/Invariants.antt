use Rattle.reg_values.proofs.ValueChanges.PlannedSizes.{Sized}
use Rattle.reg_values.proofs.plan.plan_segments.Given as goal

abbrev pub invariant-loop-index : goal.invariant-loop-index
invariant-loop-index l = Sized l.count l.size l.index l.initial.sizes.items l.sizes.items
