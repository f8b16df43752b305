use Rattle.std.proofs.Common.{◌≡◌, ◌≤◌, length}
use Rattle.std.specs.List.{slice_split}
use Rattle.reg_dotreg_reader.specs.EntryWords.{is_comma}
use Rattle.reg_dotreg_reader.specs.LineStops.{left_from_bad}
use Rattle.reg_dotreg_reader.proofs.number_stops.left_from_bad.Given as goal

abbrev pub invariant-loop-comma : goal.invariant-loop-comma
invariant-loop-comma l = record {
  so_far : left_from_bad l.most (slice_split is_comma l.list) ≡ left_from_bad l.most (slice_split is_comma l.rest);
  within : length l.rest ≤ length l.list;
}

abbrev pub decreases-loop-comma : goal.decreases-loop-comma
decreases-loop-comma l = length l.rest
