use Rattle.reg_sessions.proofs.locked.cause.Goals as goal

pub returns : goal.returns
returns g c = record { cause = c.cause.ensures.cause; stale = c.cause.ensures.stale }
