use Rattle.std.proofs.Common.{◌≡◌, ◌≤◌, max, length, drop}
use Rattle.reg_names.specs.declared.TheConstants.{VALUE_NAME_LIMIT}
use Rattle.reg_heap.specs.Paths.{Member}
use Rattle.reg_values.specs.NewValues.{all_told}
use Rattle.reg_tree.specs.KeyLengths.{largest}
use Rattle.reg_tree.proofs.build_values.longest_name.Given as goal

abbrev pub invariant-loop-value : goal.invariant-loop-value
invariant-loop-value l = record {
  left : max l.longest (largest (λ (m : Member). length m.name) (drop l.value-index (all_told l.values)))
      ≡ largest (λ (m : Member). length m.name) (all_told l.values);
  short : l.longest ≤ VALUE_NAME_LIMIT;
}
