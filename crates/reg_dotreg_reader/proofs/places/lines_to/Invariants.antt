use Rattle.std.proofs.Common.{◌+◌, ◌≤◌, length}
use Rattle.reg_dotreg_reader.specs.declared.rows.Place.TheVariants.{Outside}
use Rattle.reg_dotreg_reader.specs.EntryLines.{lines_of}
use Rattle.reg_dotreg_reader.specs.BadLines.{lines_to}
use Rattle.reg_dotreg_reader.proofs.LinePlaces.{AreRows}
use Rattle.reg_dotreg_reader.proofs.places.lines_to.Given as goal

abbrev pub invariant-loop-left : goal.invariant-loop-left
invariant-loop-left l = record {
  so_far : AreRows (lines_to Outside l.fn.line l.rows (lines_of l.behind)) l.place l.row l.left l.taken (lines_of l.rest);
  within : l.taken + length l.rest ≤ length l.behind;
}

abbrev pub decreases-loop-left : goal.decreases-loop-left
decreases-loop-left l = l.left
