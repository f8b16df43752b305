use Rattle.std.proofs.Common.{◌≡◌, take}
use Rattle.std.specs.Prelude.{map}
use Rattle.reg_dotreg_reader.specs.ToldLines.{plain_unit}
use Rattle.reg_dotreg_reader.proofs.telling.plain_units.Given as goal

abbrev pub invariant-loop-unit : goal.invariant-loop-unit
invariant-loop-unit l = l.plain.items ≡ map plain_unit (take l.unit-index l.units)
