use Rattle.std.proofs.Common.{◌≡◌, ℕ, ◌<◌, ◌≤◌, true, length, get_or}
use Rattle.reg_dotreg_reader.specs.LineStops.{is_no_bracket}
use Rattle.reg_dotreg_reader.proofs.line_stops.behind_bracket.Given as goal

abbrev pub invariant-loop-end : goal.invariant-loop-end
invariant-loop-end l = record {
  within : l.end ≤ length l.line;
  here : (k : ℕ) → l.end ≤ k → k < length l.line → is_no_bracket (get_or l.line k 0) ≡ true;
}

abbrev pub decreases-loop-end : goal.decreases-loop-end
decreases-loop-end l = l.end
