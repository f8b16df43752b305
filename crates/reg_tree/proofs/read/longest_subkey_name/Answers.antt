use Rattle.reg_tree.proofs.Invariant.KeyOfTree.{key_there}
use Rattle.reg_tree.proofs.KeyAnswers.LongestSubkeyName.{longest_told}
use Rattle.reg_tree.proofs.PathWalk.SubkeysFound.{some_subkeys}
use Rattle.reg_tree.proofs.read.longest_subkey_name.Goals as goal

pub subkeys_list-requires : goal.subkeys_list-requires
subkeys_list-requires c = key_there _ _ c.requires

pub longest_name-requires : goal.longest_name-requires
longest_name-requires c = some_subkeys _ _ c.requires _ _ c.subkeys_list.ensures

pub returns : goal.returns
returns c = λ t. longest_told _ _ t _ _ c.subkeys_list.ensures _ c.longest_name.ensures
