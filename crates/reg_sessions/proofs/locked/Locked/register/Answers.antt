use Rattle.reg_sessions.proofs.HeldHives.{registered, refused_held}
use Rattle.reg_sessions.proofs.locked.Locked.register.Goals as goal

pub returns-clause-added : goal.returns-clause-added
returns-clause-added g c =
    registered c.self.inside.lines.items c.self.inside.hive c.register.new.self c.args.altitude c.args.callback c.register.result c.register.ensures.view c.register.ensures.noted
    c.register.ensures.added c.register.ensures.cookie c.register.ensures.made c.self.view_is

pub returns-clause-err : goal.returns-clause-err
returns-clause-err g c =
    refused_held c.self.inside.lines.items c.self.inside.hive c.register.new.self c.register.result c.register.ensures.view c.register.ensures.noted c.register.ensures.err c.self.view_is
