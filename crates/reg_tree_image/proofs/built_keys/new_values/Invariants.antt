use Rattle.std.proofs.Common.{◌≡◌, take}
use Rattle.reg_values.specs.NewValues.{all_told}
use Rattle.reg_tree_image.specs.Internal.NamedRecords.{members_in}
use Rattle.reg_tree_image.proofs.built_keys.new_values.Given as goal

abbrev pub invariant-loop-value : goal.invariant-loop-value
invariant-loop-value l = all_told l.told.items ≡ take l.value-index (members_in l.values)
