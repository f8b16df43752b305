use Rattle.std.proofs.Common.{◌+◌, ◌≤◌, length}
use Rattle.reg_dotreg_reader.specs.EntryLines.{lines_of}
use Rattle.reg_dotreg_reader.proofs.ValueRows.{IsPassedSoFar}
use Rattle.reg_dotreg_reader.proofs.rows.behind_comments.Given as goal

abbrev pub invariant-loop-line : goal.invariant-loop-line
invariant-loop-line l = record {
  so_far : IsPassedSoFar (lines_of l.text) (lines_of l.rest) l.count;
  within : l.count + length l.rest ≤ length l.text;
}

abbrev pub decreases-loop-line : goal.decreases-loop-line
decreases-loop-line l = length l.rest
