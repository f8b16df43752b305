use Rattle.reg_tree.proofs.Invariant.KeyOfTree.{key_there}
use Rattle.reg_tree.proofs.KeyAnswers.RefinementOfKey.{marks_told}
use Rattle.reg_tree.proofs.read.marks.Goals as goal

pub fields-requires : goal.fields-requires
fields-requires c = key_there _ _ c.requires

pub returns : goal.returns
returns c = λ t. marks_told _ _ t _ c.fields.ensures
