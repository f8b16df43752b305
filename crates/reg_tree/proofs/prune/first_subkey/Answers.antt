use Rattle.reg_tree.proofs.Invariant.KeyOfTree.{key_there}
use Rattle.reg_tree.proofs.PathWalk.SubkeysFound.{some_subkeys}
use Rattle.reg_tree.proofs.PruneTree.ChildPlaces.{first-none, first-stands, first-some}
use Rattle.reg_tree.proofs.prune.first_subkey.Goals as goal

pub subkeys_list-list-requires : goal.subkeys_list-list-requires
subkeys_list-list-requires c = key_there _ _ c.requires

pub returns-then-list-eq0 : goal.returns-then-list-eq0
returns-then-list-eq0 c = λ t. first-none _ _ t _ _ c.subkeys_list-list.ensures c.if-list-eq0.true

pub at_place-requires-clause-subkeys : goal.at_place-requires-clause-subkeys
at_place-requires-clause-subkeys c = some_subkeys _ _ c.requires _ _ c.subkeys_list-list.ensures

pub at_place-requires-clause-place : goal.at_place-requires-clause-place
at_place-requires-clause-place c = first-stands _ _ c.requires _ _ c.subkeys_list-list.ensures c.if-list-eq0.false

pub returns : goal.returns
returns c = λ t. first-some _ _ t _ _ c.subkeys_list-list.ensures c.at_place.result c.if-list-eq0.false c.at_place.ensures
