use Rattle.reg_calls.specs.HiveView.{view_of, asks_of}
use Rattle.reg_dotreg_import.proofs.MadeChanges.{closing}
use Rattle.reg_dotreg_import.proofs.made.close.Goals as goal

pub returns-clause-closed : goal.returns-clause-closed
returns-clause-closed g c hive there = (
  c.apply.result,
  closing (asks_of g.C.Callback.answers c.args.hive.now.hive) (view_of c.args.hive.now.hive) (view_of c.apply.new.self.hive) c.args.moment c.args.handle c.apply.result hive
      there c.apply.ensures.applied,
)
