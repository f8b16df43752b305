use Rattle.std.proofs.Common.{◌≡◌, ◌≤◌, length}
use Rattle.std.specs.List.{slice_split}
use Rattle.reg_names.specs.Names.{is_backslash}
use Rattle.reg_names.specs.declared.TheConstants.{PATH_LIMIT}
use Rattle.reg_dotreg_reader.specs.LineStops.{names_stop}
use Rattle.reg_dotreg_reader.proofs.path_stops.names_stop.Given as goal

abbrev pub invariant-loop-end : goal.invariant-loop-end
invariant-loop-end l = record {
  so_far : names_stop PATH_LIMIT (slice_split is_backslash l.path) ≡ names_stop l.room (slice_split is_backslash l.rest);
  within : length l.rest ≤ length l.path;
}

abbrev pub decreases-loop-end : goal.decreases-loop-end
decreases-loop-end l = length l.rest
