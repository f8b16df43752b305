use Rattle.std.proofs.Common.{sym}
use Rattle.zugmeled.proofs.Beginnings.{new-begun}
use Rattle.zugmeled.proofs.lives.zug_hive_new.Goals as goal

pub returns-in-Ok : goal.returns-in-Ok
returns-in-Ok c =
    new-begun c.args.root_name.now c.args.descriptor.now c.args.moment c.put.new.self.held.value c.args.hive.now.held.value c.in-Ok.held.value
    (sym c.if-is_held.ensures.held) c.put.ensures c.in-Ok.ensures.fresh
