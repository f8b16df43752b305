use Rattle.std.proofs.Common.{◌≡◌, vec_len}
use Rattle.reg_sessions.specs.Sessions.{AreFresh}
use Rattle.reg_sessions.proofs.starting.fresh_sessions.Given as goal

abbrev pub invariant-loop-number : goal.invariant-loop-number
invariant-loop-number l = (vec_len l.all ≡ l.number) × AreFresh 0 0 l.all.items
