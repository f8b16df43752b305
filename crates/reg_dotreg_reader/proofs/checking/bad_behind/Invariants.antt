use Rattle.std.proofs.Common.{◌≡◌, ◌+◌, ◌≤◌, ◌++◌, false, length}
use Rattle.reg_dotreg_reader.specs.EntryLines.{lines_of}
use Rattle.reg_dotreg_reader.specs.BadLines.{bad_from}
use Rattle.reg_dotreg_reader.proofs.BadSteps.{IsBadSoFar}
use Rattle.reg_dotreg_reader.proofs.checking.bad_behind.Given as goal

abbrev pub invariant-loop-line : goal.invariant-loop-line
invariant-loop-line l = record {
  so_far :
      IsBadSoFar (l.fn.first.items ++ bad_from l.fn.root l.is_narrow l.may_stand 0 2 (lines_of l.fn.behind)) l.fn.root l.is_narrow l.bad.items
      l.is_open l.taken (lines_of l.rest);
  few : l.tells_all ≡ false → length l.bad.items ≤ 1;
  within : l.taken + length l.rest ≤ length l.fn.behind + 1;
}

abbrev pub decreases-loop-line : goal.decreases-loop-line
decreases-loop-line l = length l.rest
