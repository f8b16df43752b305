use Rattle.reg_tree.proofs.Invariant.KeyOfTree.{key_there}
use Rattle.reg_tree.proofs.KeyAnswers.SubkeyBehind.{place_of_list, none_behind}
use Rattle.reg_tree.proofs.KeyAnswers.SubkeysInTurn.{placed_next, placed_told}
use Rattle.reg_tree.proofs.PathWalk.SubkeysFound.{some_subkeys, subkeys}
use Rattle.reg_tree.proofs.read.next_subkey.Goals as goal

pub subkeys_list-list-requires : goal.subkeys_list-list-requires
subkeys_list-list-requires c = key_there _ _ c.requires.here

pub key_behind-requires-clause-subkeys : goal.key_behind-requires-clause-subkeys
key_behind-requires-clause-subkeys c = some_subkeys _ _ c.requires.here _ _ c.subkeys_list-list.ensures

pub key_behind-requires-clause-place : goal.key_behind-requires-clause-place
key_behind-requires-clause-place c = place_of_list _ _ c.requires.here _ _ c.subkeys_list-list.ensures c.args.place c.requires.place

pub returns-in_default : goal.returns-in_default
returns-in_default c = λ t. none_behind _ _ t _ _ c.subkeys_list-list.ensures c.args.place c.args.node c.in_default.ensures.place

pub returns : goal.returns
returns c = λ t.
    let next = placed_next _ _ t _ _ c.subkeys_list-list.ensures c.args.place c.in-Some.next.place
    (c.in-Some.ensures.place _ (subkeys _ _ t _ _ c.subkeys_list-list.ensures)) in
    (placed_told _ _ t _ _ c.subkeys_list-list.ensures c.args.node c.in-Some.next.place _ c.in-Some.next.key next c.in-Some.ensures.key, next)
