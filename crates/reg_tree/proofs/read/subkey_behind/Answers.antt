use Rattle.reg_tree.proofs.Invariant.KeyOfTree.{key_there}
use Rattle.reg_tree.proofs.KeyAnswers.SubkeyBehind.{place_of_list, behind_told, none_behind}
use Rattle.reg_tree.proofs.PathWalk.SubkeysFound.{some_subkeys}
use Rattle.reg_tree.proofs.read.subkey_behind.Goals as goal

pub subkeys_list-list-requires : goal.subkeys_list-list-requires
subkeys_list-list-requires c = key_there _ _ c.requires.here

pub behind-requires-clause-subkeys : goal.behind-requires-clause-subkeys
behind-requires-clause-subkeys c = some_subkeys _ _ c.requires.here _ _ c.subkeys_list-list.ensures

pub behind-requires-clause-place : goal.behind-requires-clause-place
behind-requires-clause-place c = place_of_list _ _ c.requires.here _ _ c.subkeys_list-list.ensures c.args.place c.requires.place

pub returns-in_default : goal.returns-in_default
returns-in_default c = λ t. none_behind _ _ t _ _ c.subkeys_list-list.ensures c.args.place c.args.node c.in_default.ensures

pub returns : goal.returns
returns c = λ t. behind_told _ _ t _ _ c.subkeys_list-list.ensures c.args.place c.args.node c.in-Some.offset c.in-Some.ensures
