use Rattle.reg_model.proofs.CallSteps.{same_after}
use Rattle.reg_model.proofs.laws.refusal_changes_nothing.Goals as goal

pub returns : goal.returns
returns c = same_after
