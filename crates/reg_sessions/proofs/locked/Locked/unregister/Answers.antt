use Rattle.reg_sessions.proofs.HeldHives.{unregistered}
use Rattle.reg_sessions.proofs.locked.Locked.unregister.Goals as goal

pub returns-clause-taken : goal.returns-clause-taken
returns-clause-taken g c =
    unregistered c.self.inside.lines.items c.self.inside.hive c.unregister.new.self c.args.cookie.number c.unregister.result c.unregister.ensures.view c.unregister.ensures.noted
    c.unregister.ensures.taken c.unregister.ensures.made c.self.view_is
