use Rattle.std.proofs.Common.{sym}
use Rattle.zugmeled.proofs.Beginnings.{load-begun, load-refused}
use Rattle.zugmeled.proofs.lives.zug_hive_load.Goals as goal

pub returns-in-Ok : goal.returns-in-Ok
returns-in-Ok c =
    load-begun c.args.bytes.now c.put.new.self.held.value c.args.hive.now.held.value c.in-Ok.held.value (sym c.if-is_held.ensures.held)
    c.put.ensures c.in-Ok.ensures.loaded

pub returns-in-Err : goal.returns-in-Err
returns-in-Err c =
    load-refused c.args.bytes.now c.is_held.new.self.held.value c.args.hive.now.held.value c.in-Err.met c.told-told.result.status
    c.told-told.result.number (sym c.if-is_held.ensures.held) c.is_held.ensures.same c.in-Err.ensures.fault c.told-told.ensures
