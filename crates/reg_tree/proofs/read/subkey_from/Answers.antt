use Rattle.std.proofs.Common.{arith}
use Rattle.reg_tree.proofs.Invariant.KeyOfTree.{key_there}
use Rattle.reg_tree.proofs.KeyAnswers.RefinementOfKey.{no_subkey}
use Rattle.reg_tree.proofs.KeyAnswers.SubkeysInTurn.{placed_at}
use Rattle.reg_tree.proofs.PathWalk.SubkeysFound.{some_subkeys}
use Rattle.reg_tree.proofs.read.subkey_from.Goals as goal

pub subkeys_list-list-requires : goal.subkeys_list-list-requires
subkeys_list-list-requires c = key_there _ _ c.requires.here

pub returns-then-index-len : goal.returns-then-index-len
returns-then-index-len c = λ t.
    no_subkey _ _ t _ _ c.subkeys_list-list.ensures c.args.node c.args.index (let n = c.len.ensures in let l = c.if-index-len.true in omega (arith, n, l))

pub place_at-requires-clause-subkeys : goal.place_at-requires-clause-subkeys
place_at-requires-clause-subkeys c = some_subkeys _ _ c.requires.here _ _ c.subkeys_list-list.ensures

pub subkey_at-requires-clause-place : goal.subkey_at-requires-clause-place
subkey_at-requires-clause-place c = (placed_at _ _ c.requires.here _ _ c.subkeys_list-list.ensures c.place_at.result c.args.index c.place_at.ensures).stands

pub returns : goal.returns
returns c = λ t. c.subkey_at.ensures t c.args.index (placed_at _ _ t _ _ c.subkeys_list-list.ensures c.place_at.result c.args.index c.place_at.ensures)
