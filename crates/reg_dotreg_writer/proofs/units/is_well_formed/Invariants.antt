use Rattle.std.proofs.Common.{◌≡◌, length}
use Rattle.std.specs.Char.Utf16.{has_unpaired_surrogate}
use Rattle.reg_dotreg_writer.proofs.units.is_well_formed.Given as goal

abbrev pub invariant-loop-first : goal.invariant-loop-first
invariant-loop-first l = has_unpaired_surrogate l.rest ≡ has_unpaired_surrogate l.units

abbrev pub decreases-loop-first : goal.decreases-loop-first
decreases-loop-first l = length l.rest
