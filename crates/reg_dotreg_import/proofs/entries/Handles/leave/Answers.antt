use Rattle.reg_calls.specs.HiveView.{view_of}
use Rattle.reg_dotreg_import.proofs.CallsInTurn.{left-none, left-one}
use Rattle.reg_dotreg_import.proofs.EntrySteps.{left}
use Rattle.reg_dotreg_import.proofs.OpenHandleLemmas.{open-some}
use Rattle.reg_dotreg_import.proofs.entries.Handles.leave.Goals as goal

pub returns-then-self-clause-rooted : goal.returns-then-self-clause-rooted
returns-then-self-clause-rooted g c before s i =
    let old = view_of c.args.hive.now.hive in
    let a = c.close.ensures.closed i.rooted.hive (open-some old.handles c.args.self.now.key s.here i.key_open) in
    left before c.args.self.now old s i (view_of c.close.new.hive.hive) a.0 c.if-self.true a.1

pub returns-then-self-clause-led : goal.returns-then-self-clause-led
returns-then-self-clause-led g c before s i =
    let old = view_of c.args.hive.now.hive in
    let a = c.close.ensures.closed i.rooted.hive (open-some old.handles c.args.self.now.key s.here i.key_open) in
    left-one c.args.self.now old s (view_of c.close.new.hive.hive) a.0 c.if-self.true a.1

pub returns-else-self-clause-led : goal.returns-else-self-clause-led
returns-else-self-clause-led g c before s i = left-none c.args.self.now (view_of c.args.hive.now.hive) s c.if-self.false
