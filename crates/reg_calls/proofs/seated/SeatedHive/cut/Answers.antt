use Rattle.reg_calls.specs.HiveView.{view_of, noted_of}
use Rattle.reg_calls.proofs.CutJournals.{seated-cut}
use Rattle.reg_calls.proofs.seated.SeatedHive.cut.Goals as goal

pub invariant_of-self : goal.invariant_of-self
invariant_of-self g c = record {
  seated = seated-cut (noted_of c.args.self.now.hive) (noted_of c.cut.new.self) (view_of c.args.self.now.hive).journal (view_of c.cut.new.self).journal
      c.args.self.now.shares.items c.cut.ensures.current c.args.self.now.seated;
}
