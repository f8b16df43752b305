use Rattle.std.proofs.Common.{◌≡◌, ◌+◌, take}
use Rattle.reg_arena.specs.NewCells.{total_of}
use Rattle.reg_values.specs.NewValues.{all_told, each_value_sizes}
use Rattle.reg_values.proofs.making.front_within.Given as goal

abbrev pub invariant-loop-index : goal.invariant-loop-index
invariant-loop-index l = l.left + total_of (each_value_sizes (take l.index (all_told l.values))) ≡ l.most
