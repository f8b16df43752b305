use Rattle.reg_tree.proofs.Invariant.KeyOfTree.{key_there, list_length}
use Rattle.reg_tree.proofs.values.count.Goals as goal

pub values_list-requires : goal.values_list-requires
values_list-requires c = key_there _ _ c.requires

pub returns : goal.returns
returns c = λ t. list_length _ _ t _ _ c.values_list.ensures
