use Rattle.std.proofs.Common.{◌≡◌, max, length, drop}
use Rattle.reg_heap.specs.Paths.{Member}
use Rattle.reg_values.specs.NewValues.{all_told}
use Rattle.reg_tree.specs.KeyLengths.{largest}
use Rattle.reg_tree.proofs.build_values.largest_data.Given as goal

abbrev pub invariant-loop-value : goal.invariant-loop-value
invariant-loop-value l =
    max l.most (largest (λ (m : Member). length m.bytes) (drop l.value-index (all_told l.values)))
    ≡ largest (λ (m : Member). length m.bytes) (all_told l.values)
