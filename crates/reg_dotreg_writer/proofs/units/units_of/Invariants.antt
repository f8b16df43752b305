use Rattle.std.proofs.Common.{◌≡◌, ◌++◌, length}
use Rattle.std.specs.Option.{option_map}
use Rattle.reg_tree_text.specs.ValueTexts.{units_of}
use Rattle.reg_dotreg_writer.proofs.units.units_of.Given as goal

abbrev pub invariant-loop-rest : goal.invariant-loop-rest
invariant-loop-rest l = units_of l.bytes ≡ option_map (λ more. l.units.items ++ more) (units_of l.rest)

abbrev pub decreases-loop-rest : goal.decreases-loop-rest
decreases-loop-rest l = length l.rest
