use Rattle.std.proofs.Common.{◌≡◌, ◌≤◌, false, length}
use Rattle.reg_dotreg_reader.specs.LineStops.{unclosed}
use Rattle.reg_dotreg_reader.proofs.quote_stops.unclosed.Given as goal

abbrev pub invariant-loop-unit : goal.invariant-loop-unit
invariant-loop-unit l = record {
  so_far : unclosed l.left false l.text ≡ unclosed l.left l.is_behind_backslash l.rest;
  within : length l.rest ≤ length l.text;
}

abbrev pub decreases-loop-unit : goal.decreases-loop-unit
decreases-loop-unit l = length l.rest
