use Rattle.std.proofs.Common.{ap, ◌∙◌, Some}
use Rattle.zugmeled.proofs.Turns.{cut-made, cut-refused}
use Rattle.zugmeled.proofs.journals.zug_hive_cut.Goals as goal

pub returns-in-Ok : goal.returns-in-Ok
returns-in-Ok c =
    let cut = c.in-Ok.ensures in
    cut-made c.args.hive.now.held.value c.put.new.self.held.value c.deref_mut.result.now c.cut-done.new.self
    (ap Some c.deref_mut.ensures.value ∙ c.in-Some.ensures.hive) c.put.ensures c.in-Ok.count cut.count cut.cut cut.clear

pub returns-in-Err : goal.returns-in-Err
returns-in-Err c =
    let cut = c.in-Err.ensures in
    cut-refused c.args.hive.now.held.value c.put.new.self.held.value c.deref_mut.result.now c.cut-done.new.self
    (ap Some c.deref_mut.ensures.value ∙ c.in-Some.ensures.hive) c.put.ensures c.in-Err.fault c.told.result cut.fault c.told.ensures cut.err
