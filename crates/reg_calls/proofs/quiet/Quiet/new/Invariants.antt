use Rattle.std.proofs.Common.{ℕ, ◌≡◌, vec_len, get_or}
use Rattle.reg_calls.specs.Internal.QuietKeys.{nothing}
use Rattle.reg_calls.proofs.quiet.Quiet.new.Given as goal

abbrev pub invariant-loop-row : goal.invariant-loop-row
invariant-loop-row l = record {
  count : vec_len l.rows ≡ l._row;
  none : (i : ℕ) → get_or l.rows.items i nothing ≡ nothing;
}
