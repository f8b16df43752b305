use Rattle.std.proofs.Common.{◌≡◌, ◌++◌, drop}
use Rattle.std.specs.Prelude.{flat_map}
use Rattle.reg_dotreg_writer.specs.Entries.{unit_bytes}
use Rattle.reg_dotreg_writer.proofs.encoding.push_wide.Given as goal

abbrev pub invariant-loop-unit : goal.invariant-loop-unit
invariant-loop-unit l = l.bytes.items ++ flat_map unit_bytes (drop l.unit-index l.units) ≡ l.initial.bytes.items ++ flat_map unit_bytes l.units
