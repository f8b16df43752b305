use Rattle.std.proofs.Common.{◌≡◌, ◌+◌, ◌≤◌, length}
use Rattle.reg_dotreg_reader.specs.BadLines.{place_from, place_behind_units}
use Rattle.reg_dotreg_reader.proofs.places.place_behind.Given as goal

abbrev pub invariant-loop-unit : goal.invariant-loop-unit
invariant-loop-unit l = record {
  so_far : place_behind_units l.units ≡ place_from l.row l.column l.rest;
  rows : l.row + length l.rest ≤ length l.units;
  columns : l.column + length l.rest ≤ length l.units + 1;
}

abbrev pub decreases-loop-unit : goal.decreases-loop-unit
decreases-loop-unit l = length l.rest
