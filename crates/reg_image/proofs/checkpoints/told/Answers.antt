use Rattle.std.proofs.Common.{Some, ap, ◌∙◌}
use Rattle.reg_image.proofs.CheckpointFaults.{told-open, told-numbers}
use Rattle.reg_image.proofs.checkpoints.told.Goals as goal

pub returns-in-HandlesOpen : goal.returns-in-HandlesOpen
returns-in-HandlesOpen c v fault = told-open c.in-HandlesOpen.count v (fault ∙ ap Some c.in-HandlesOpen.is)

pub returns-in-Numbers : goal.returns-in-Numbers
returns-in-Numbers c v fault = told-numbers v (fault ∙ ap Some c.in-Numbers.is)
