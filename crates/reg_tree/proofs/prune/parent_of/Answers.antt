use Rattle.reg_tree.proofs.Invariant.KeyOfTree.{key_there}
use Rattle.reg_tree.proofs.PruneTree.TopKeys.{parent-told}
use Rattle.reg_tree.proofs.prune.parent_of.Goals as goal

pub fields-requires : goal.fields-requires
fields-requires c = key_there _ _ c.requires.top.here

pub returns : goal.returns
returns c = λ t. parent-told _ _ t c.requires.below c.fields.result c.fields.ensures
