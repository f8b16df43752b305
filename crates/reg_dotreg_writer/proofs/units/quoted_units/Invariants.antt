use Rattle.std.proofs.Common.{◌≡◌, ◌++◌, drop}
use Rattle.std.specs.Prelude.{flat_map}
use Rattle.reg_dotreg_writer.specs.EntryTexts.{quoted_unit}
use Rattle.reg_dotreg_writer.proofs.units.quoted_units.Given as goal

abbrev pub invariant-loop-unit : goal.invariant-loop-unit
invariant-loop-unit l = l.units.items ++ flat_map quoted_unit (drop l.unit-index l.text) ≡ flat_map quoted_unit l.text
