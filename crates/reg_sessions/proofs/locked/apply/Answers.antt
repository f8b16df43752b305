use Rattle.reg_sessions.proofs.locked.apply.Goals as goal

pub returns-clause-answered : goal.returns-clause-answered
returns-clause-answered g c = record {
  noted = c.apply.ensures.noted;
  applied = c.apply.ensures.applied;
  current = c.apply.ensures.current;
  session = c.apply.ensures.session;
  stale = c.apply.ensures.stale;
}
