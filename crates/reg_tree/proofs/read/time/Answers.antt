use Rattle.reg_tree.proofs.Invariant.KeyOfTree.{key_there}
use Rattle.reg_tree.proofs.KeyAnswers.RefinementOfKey.{time_told}
use Rattle.reg_tree.proofs.read.time.Goals as goal

pub fields-requires : goal.fields-requires
fields-requires c = key_there _ _ c.requires

pub returns : goal.returns
returns c = λ t. time_told _ _ t _ c.fields.ensures
