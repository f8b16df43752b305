use Rattle.reg_workers.proofs.PlanLines.{plan_line}
use Rattle.reg_workers.proofs.plan.Plan.add_line.Goals as goal

pub returns : goal.returns
returns c = λ hives lines plan. plan_line hives lines c.args.line.now _ _ _ c.in_ok-line.ensures plan c.in_ok-add.ensures
