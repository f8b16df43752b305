use Rattle.reg_tree.proofs.Invariant.KeyOfTree.{key_there}
use Rattle.reg_tree.proofs.KeyAnswers.ClassOfKey.{no_class, class_there, class_cut, class_told}
use Rattle.reg_tree.proofs.read.class.Goals as goal

pub fields-fields-requires : goal.fields-fields-requires
fields-fields-requires c = key_there _ _ c.requires

pub returns-then-fields-eq0-clause-told : goal.returns-then-fields-eq0-clause-told
returns-then-fields-eq0-clause-told c = λ t r e. no_class _ _ t _ c.fields-fields.ensures c.if-fields-eq0.true r e

pub content-requires : goal.content-requires
content-requires c = class_there _ _ c.requires _ c.fields-fields.ensures c.if-fields-eq0.false

pub slice_bounds-result-end-2 : goal.slice_bounds-result-end-2
slice_bounds-result-end-2 c = class_cut _ _ c.requires _ c.fields-fields.ensures c.if-fields-eq0.false _ c.from.ensures _ c.content.ensures

pub returns-clause-told : goal.returns-clause-told
returns-clause-told c = λ t r e. class_told _ _ t _ c.fields-fields.ensures c.if-fields-eq0.false _ c.from.ensures _ c.content.ensures r e
