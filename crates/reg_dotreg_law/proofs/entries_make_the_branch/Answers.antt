use Rattle.reg_dotreg_law.proofs.AnyBranch.{branch-again, branch-tree, branch-named}
use Rattle.reg_dotreg_law.proofs.entries_make_the_branch.Goals as goal

pub returns-clause-same : goal.returns-clause-same
returns-clause-same c = λ tree bare path moment i limits there b. branch-again tree i limits moment bare b path there

pub returns-clause-is_tree : goal.returns-clause-is_tree
returns-clause-is_tree c = λ tree bare path moment i limits there b. branch-tree tree i limits moment bare b path

pub returns-clause-root : goal.returns-clause-root
returns-clause-root c = λ tree bare path moment i limits there b. branch-named tree i limits moment bare b path there
