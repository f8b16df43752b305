use Rattle.std.proofs.Common.{◌≡◌, ◌++◌, take}
use Rattle.reg_values.specs.NewValues.{all_told, each_value_sizes}
use Rattle.reg_values.proofs.plan.plan_values.Given as goal

abbrev pub invariant-loop-value : goal.invariant-loop-value
invariant-loop-value l = l.sizes.items ≡ l.initial.sizes.items ++ each_value_sizes (take l.value-index (all_told l.values))
