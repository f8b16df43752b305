use Rattle.std.proofs.Common.{◌<◌, ◌≤◌, ℕ, length, slice_index}
use Rattle.reg_calls.specs.HiveView.{view_of}
use Rattle.reg_sessions.specs.Gathering.{receipts_by}
use Rattle.reg_sessions.proofs.Compared.{Compared}
use Rattle.reg_sessions.proofs.compare.first_gap.Given as goal

abbrev pub invariant-loop-i : goal.invariant-loop-i
invariant-loop-i g l = Compared (view_of l.hive).journal l.number l.sessions l.i l.places

abbrev pub invariant-loop-s : goal.invariant-loop-s
invariant-loop-s g l = (s : ℕ) → s < l.s → length (receipts_by l.sessions l.number s) ≤ slice_index l.places s
