use Rattle.std.proofs.Common.{◌-◌, length}
use Rattle.reg_values.specs.NewValues.{all_told}
use Rattle.reg_tree_image.proofs.Readers.PutValues.{ArePut}
use Rattle.reg_tree_image.proofs.built_keys.put_groups.Given as goal

abbrev pub invariant-loop-from : goal.invariant-loop-from
invariant-loop-from l = ArePut l.initial.tree l.tree l.node l.time (all_told l.values) l.from

abbrev pub decreases-loop-from : goal.decreases-loop-from
decreases-loop-from l = length l.values - l.from
