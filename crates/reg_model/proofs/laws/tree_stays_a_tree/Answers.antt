use Rattle.reg_model.proofs.TreesOfJournals.{tree-stays}
use Rattle.reg_model.proofs.laws.tree_stays_a_tree.Goals as goal

pub returns : goal.returns
returns c = tree-stays
