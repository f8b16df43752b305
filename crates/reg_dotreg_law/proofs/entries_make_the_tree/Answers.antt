use Rattle.reg_dotreg_law.proofs.TreesMadeAgain.{made-again, tree-again, root-named}
use Rattle.reg_dotreg_law.proofs.entries_make_the_tree.Goals as goal

pub returns-clause-same : goal.returns-clause-same
returns-clause-same c = λ tree bare moment i limits b. made-again tree i limits moment bare b

pub returns-clause-is_tree : goal.returns-clause-is_tree
returns-clause-is_tree c = λ tree bare moment i limits b. tree-again tree i limits moment bare b

pub returns-clause-root : goal.returns-clause-root
returns-clause-root c = λ tree bare moment i limits b. root-named tree i limits moment bare b
