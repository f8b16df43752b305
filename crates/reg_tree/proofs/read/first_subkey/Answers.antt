use Rattle.std.proofs.Common.{arith}
use Rattle.reg_tree.proofs.Invariant.KeyOfTree.{key_there}
use Rattle.reg_tree.proofs.KeyAnswers.RefinementOfKey.{no_subkey}
use Rattle.reg_tree.proofs.KeyAnswers.SubkeysInTurn.{placed_first}
use Rattle.reg_tree.proofs.read.first_subkey.Goals as goal

pub subkeys_list-list-requires : goal.subkeys_list-list-requires
subkeys_list-list-requires c = key_there _ _ c.requires.here

pub returns-then-list-eq0 : goal.returns-then-list-eq0
returns-then-list-eq0 c = λ t. no_subkey _ _ t _ _ c.subkeys_list-list.ensures c.args.node 0 (let e = c.if-list-eq0.true in omega (arith, e))

pub subkey_at-requires-clause-place : goal.subkey_at-requires-clause-place
subkey_at-requires-clause-place c = (placed_first _ _ c.requires.here _ _ c.subkeys_list-list.ensures c.if-list-eq0.false).stands

pub returns : goal.returns
returns c = λ t. c.subkey_at.ensures t 0 (placed_first _ _ t _ _ c.subkeys_list-list.ensures c.if-list-eq0.false)
