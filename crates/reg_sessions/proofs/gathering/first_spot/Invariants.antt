use Rattle.std.proofs.Common.{◌<◌, ℕ}
use Rattle.reg_sessions.specs.Gathering.{IsAudited}
use Rattle.reg_sessions.proofs.gathering.first_spot.Given as goal

abbrev pub invariant-loop-h : goal.invariant-loop-h
invariant-loop-h g l = (k : ℕ) → k < l.h → IsAudited l.audit l.sessions k
