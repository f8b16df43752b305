use Rattle.reg_dotreg_law.proofs.ChangesMade.{changes-made, changes-tree}
use Rattle.reg_dotreg_law.proofs.changes_make_the_new_tree.Goals as goal

pub returns-clause-same : goal.returns-clause-same
returns-clause-same c = λ old new moment i w j v. changes-made moment old new i w j v

pub returns-clause-is_tree : goal.returns-clause-is_tree
returns-clause-is_tree c = λ old new moment i w j v. changes-tree moment old new i w j v
