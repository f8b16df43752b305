use Rattle.std.proofs.Common.{◌≡◌, ◌<◌, ℕ, length, take}
use Rattle.reg_calls.specs.HiveView.{view_of}
use Rattle.reg_calls.specs.Views.{told_in}
use Rattle.reg_sessions.specs.Gathering.{taken_by}
use Rattle.reg_sessions.proofs.compare.first_stray.Given as goal

abbrev pub invariant-loop-s : goal.invariant-loop-s
invariant-loop-s g l =
    (k : ℕ) → k < l.s → take (length (taken_by l.sessions l.number k)) (told_in (view_of l.hive) k) ≡ taken_by l.sessions l.number k
