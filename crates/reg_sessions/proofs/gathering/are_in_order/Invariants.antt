use Rattle.std.proofs.Common.{◌≡◌, ◌<◌, ℕ}
use Rattle.reg_sessions.specs.Sessions.{session_of}
use Rattle.reg_sessions.proofs.gathering.are_in_order.Given as goal

abbrev pub invariant-loop-s : goal.invariant-loop-s
invariant-loop-s l = (k : ℕ) → k < l.s → (session_of l.sessions k).number ≡ k
