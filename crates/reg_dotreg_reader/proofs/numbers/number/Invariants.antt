use Rattle.std.proofs.Common.{◌≡◌, ◌<◌, ◌^◌, drop}
use Rattle.reg_dotreg_reader.specs.EntryWords.{number_after}
use Rattle.reg_dotreg_reader.proofs.numbers.number.Given as goal

abbrev pub invariant-loop-unit : goal.invariant-loop-unit
invariant-loop-unit l = record {
  value : number_after 0 l.digits ≡ number_after l.number (drop l.unit-index l.digits);
  below : l.number < 16 ^ l.unit-index;
}
