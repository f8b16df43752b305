use Rattle.std.proofs.Common.{◌+◌, ◌≤◌, length}
use Rattle.reg_dotreg_reader.specs.declared.rows.Place.TheVariants.{Outside}
use Rattle.reg_dotreg_reader.specs.EntryLines.{lines_of, joined}
use Rattle.reg_dotreg_reader.proofs.ValueRows.{IsJoinedSoFar}
use Rattle.reg_dotreg_reader.proofs.rows.joined.Given as goal

abbrev pub invariant-loop-front : goal.invariant-loop-front
invariant-loop-front l = record {
  so_far : IsJoinedSoFar (joined Outside l.fn.line (lines_of l.behind)) (lines_of l.behind) l.units.items l.place l.row (lines_of l.rest) l.taken;
  within : l.taken + length l.rest ≤ length l.behind;
}

abbrev pub decreases-loop-front : goal.decreases-loop-front
decreases-loop-front l = length l.rest
