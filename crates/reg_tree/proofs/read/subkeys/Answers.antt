use Rattle.std.proofs.Common.{◌∙◌}
use Rattle.reg_tree.proofs.Invariant.KeyOfTree.{key_there}
use Rattle.reg_tree.proofs.KeyAnswers.RefinementOfKey.{number_told}
use Rattle.reg_tree.proofs.read.subkeys.Goals as goal

pub subkeys_list-requires : goal.subkeys_list-requires
subkeys_list-requires c = key_there _ _ c.requires

pub returns : goal.returns
returns c = λ t. c.len.ensures ∙ number_told _ _ t _ _ c.subkeys_list.ensures
