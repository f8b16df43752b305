use Rattle.reg_model.proofs.CallSteps.{not_zero}
use Rattle.reg_model.proofs.laws.no_refusal_is_zero.Goals as goal

pub returns : goal.returns
returns c = not_zero
