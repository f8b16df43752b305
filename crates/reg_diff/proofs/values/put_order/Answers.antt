use Rattle.reg_diff.specs.Differences.{order_line}
use Rattle.reg_diff.proofs.values.put_order.Goals as goal

pub returns : goal.returns
unfolding order_line
returns g c = λ begin whole left s. c.put_line.ensures begin whole left s
