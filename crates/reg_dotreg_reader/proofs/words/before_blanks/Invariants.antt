use Rattle.std.proofs.Common.{◌≡◌, ℕ, ◌<◌, ◌≤◌, true, length, get_or}
use Rattle.reg_dotreg_reader.specs.EntryWords.{is_blank}
use Rattle.reg_dotreg_reader.proofs.words.before_blanks.Given as goal

abbrev pub invariant-loop-end : goal.invariant-loop-end
invariant-loop-end l = record {
  within : l.end ≤ length l.units;
  here : (k : ℕ) → l.end ≤ k → k < length l.units → is_blank (get_or l.units k 0) ≡ true;
}

abbrev pub decreases-loop-end : goal.decreases-loop-end
decreases-loop-end l = l.end
