use Rattle.std.proofs.Common.{arith}
use Rattle.reg_tree.proofs.Invariant.KeyOfTree.{key_there}
use Rattle.reg_tree.proofs.PathWalk.SubkeysFound.{some_subkeys}
use Rattle.reg_tree.proofs.KeyAnswers.RefinementOfKey.{no_subkey, subkey_told}
use Rattle.reg_tree.proofs.read.subkey.Goals as goal

pub subkeys_list-list-requires : goal.subkeys_list-list-requires
subkeys_list-list-requires c = key_there _ _ c.requires.here

pub at-requires-clause-subkeys : goal.at-requires-clause-subkeys
at-requires-clause-subkeys c = some_subkeys _ _ c.requires.here _ _ c.subkeys_list-list.ensures

pub returns-then-index-len : goal.returns-then-index-len
returns-then-index-len c = λ t.
    no_subkey _ _ t _ _ c.subkeys_list-list.ensures c.args.node c.args.index (let n = c.len.ensures in let l = c.if-index-len.true in omega (arith, n, l))

pub returns : goal.returns
returns c = λ t.
    subkey_told _ _ t _ _ c.subkeys_list-list.ensures c.args.node c.args.index c.at.result (let n = c.len.ensures in let l = c.if-index-len.false in omega (arith, n, l)) c.at.ensures
