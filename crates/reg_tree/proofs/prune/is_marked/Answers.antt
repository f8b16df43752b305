use Rattle.reg_tree.proofs.DeleteKey.DeleteKeyFaults.{marked-told}
use Rattle.reg_tree.proofs.Invariant.KeyOfTree.{key_there}
use Rattle.reg_tree.proofs.prune.is_marked.Goals as goal

pub fields-requires : goal.fields-requires
fields-requires c = key_there _ _ c.requires

pub returns : goal.returns
returns c = λ t. marked-told _ _ t c.fields.result c.fields.ensures
