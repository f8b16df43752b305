use Rattle.std.proofs.Common.{◌+◌, ◌≤◌, length}
use Rattle.reg_dotreg_reader.specs.EntryLines.{lines_of}
use Rattle.reg_dotreg_reader.specs.EntryMeanings.{entries_behind}
use Rattle.reg_dotreg_reader.proofs.EntrySteps.{IsReadSoFar}
use Rattle.reg_dotreg_reader.proofs.reading.entries_behind.Given as goal

abbrev pub invariant-loop-line : goal.invariant-loop-line
invariant-loop-line l = record {
  so_far :
      IsReadSoFar (entries_behind l.fn.root l.is_narrow (lines_of l.fn.behind)) l.fn.root l.is_narrow l.entries.items l.is_open l.taken
      (lines_of l.rest);
  within : l.taken + length l.rest ≤ length l.fn.behind + 1;
}

abbrev pub decreases-loop-line : goal.decreases-loop-line
decreases-loop-line l = length l.rest
