use Rattle.reg_shape.proofs.Refinement.SiblingNames.{siblings-apart}
use Rattle.reg_shape.proofs.laws.siblings_fold_apart.Goals as goal

pub returns : goal.returns
returns c = siblings-apart
