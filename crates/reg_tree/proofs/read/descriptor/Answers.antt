use Rattle.reg_tree.proofs.Invariant.KeyOfTree.{key_there}
use Rattle.reg_tree.proofs.KeyAnswers.RefinementOfKey.{security_told, descriptor_told}
use Rattle.reg_tree.proofs.KeyAnswers.AnswerBounds.{descriptor-bound}
use Rattle.reg_tree.proofs.read.descriptor.Goals as goal

pub fields-requires : goal.fields-requires
fields-requires c = key_there _ _ c.requires

pub descriptor-requires : goal.descriptor-requires
descriptor-requires c = security_told _ _ c.requires _ c.fields.ensures

pub returns-clause-told : goal.returns-clause-told
returns-clause-told c = λ t. descriptor_told _ _ t _ c.fields.ensures _ c.descriptor.ensures

pub returns-clause-short : goal.returns-clause-short
returns-clause-short c = descriptor-bound _ _ c.requires _ c.fields.ensures _ c.descriptor.ensures
