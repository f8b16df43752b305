use Rattle.reg_tree.proofs.BuildKey.ClassPut.{puts}
use Rattle.reg_tree.proofs.build.put_class.Goals as goal

pub returns-in-Some-clause-puts : goal.returns-in-Some-clause-puts
returns-in-Some-clause-puts c = puts _ _ c.in-Some.cell c.args.class.now c.write.ensures.written _ c.in-Some.is
