use Rattle.reg_shape.proofs.Refinement.SpeltTrees.{root-held, parent-held}
use Rattle.reg_shape.proofs.laws.tree_holds_each_parent.Goals as goal

pub returns-clause-root : goal.returns-clause-root
returns-clause-root c = root-held

pub returns-clause-parent : goal.returns-clause-parent
returns-clause-parent c = parent-held
