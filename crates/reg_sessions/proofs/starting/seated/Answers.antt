use Rattle.std.proofs.Common.{◌∙◌, sym, arith}
use Rattle.reg_sessions.proofs.Rings.{ahead_new}
use Rattle.reg_sessions.proofs.starting.seated.Goals as goal

pub invariant_of-result : goal.invariant_of-result
invariant_of-result g c = (
  c.in_ok-shares.ensures.admitted,
  ahead_new c.in_ok-lines.lines.items _ (omega (arith, c.in_ok-lines.ensures.lines)) c.in_ok-lines.ensures.silent c.in_ok-shares.ensures.silent,
  c.in_ok-lines.ensures.lines ∙ sym c.in_ok-shares.ensures.seats.many,
)
