use Rattle.std.proofs.Common.{◌≡◌, ℕ, ◌-◌, ◌<◌, ◌≤◌, true, length, get_or}
use Rattle.reg_dotreg_reader.specs.EntryWords.{is_blank}
use Rattle.reg_dotreg_reader.proofs.words.behind_blanks.Given as goal

abbrev pub invariant-loop-start : goal.invariant-loop-start
invariant-loop-start l = record {
  within : l.start ≤ length l.units;
  here : (k : ℕ) → k < l.start → is_blank (get_or l.units k 0) ≡ true;
}

abbrev pub decreases-loop-start : goal.decreases-loop-start
decreases-loop-start l = length l.units - l.start
