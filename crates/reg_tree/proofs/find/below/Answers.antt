use Rattle.reg_tree.proofs.Invariant.KeyOfTree.{key_there}
use Rattle.reg_tree.proofs.PathWalk.SubkeysFound.{some_subkeys, named_found}
use Rattle.reg_tree.proofs.find.below.Goals as goal

pub subkeys_list-requires : goal.subkeys_list-requires
subkeys_list-requires c = key_there _ _ c.requires

pub find_key-requires : goal.find_key-requires
find_key-requires c = some_subkeys _ _ c.requires _ _ c.subkeys_list.ensures

pub returns : goal.returns
returns c = named_found _ _ c.requires _ _ c.subkeys_list.ensures c.args.name.now c.find_key.result c.find_key.ensures
