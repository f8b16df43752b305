use Rattle.std.proofs.Common.{◌≡◌, take, drop}
use Rattle.std.specs.List.{list_all}
use Rattle.reg_names.specs.Names.{is_value_name_byte}
use Rattle.reg_dotreg_reader.proofs.quotes.narrowed.Given as goal

abbrev pub invariant-loop-unit : goal.invariant-loop-unit
invariant-loop-unit l = record {
  taken : l.bytes.items ≡ take l.unit-index l.units;
  good : list_all is_value_name_byte l.units ≡ list_all is_value_name_byte (drop l.unit-index l.units);
}
