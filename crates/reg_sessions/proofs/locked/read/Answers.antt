use Rattle.reg_sessions.proofs.locked.read.Goals as goal

pub returns : goal.returns
returns g c = record { at = c.read.ensures.at; body = c.read.ensures.body; stale = c.read.ensures.stale }
