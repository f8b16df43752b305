use Rattle.reg_names.proofs.NameOrders.{one_step, step_alike}
use Rattle.std.proofs.Common.{arith}
use Rattle.reg_names.proofs.common_front.Goals as goal

pub loop-front-preserved : goal.loop-front-preserved
loop-front-preserved c = (
  omega arith,
  omega arith,
  one_step c.loop-front.front 16 c.args.a.now c.args.b.now c.loop-front.invariant.2
      (step_alike c.loop-front.front 16 c.args.a.now c.args.b.now c.eq.result c.eq.ensures c.if-eq.true),
)
