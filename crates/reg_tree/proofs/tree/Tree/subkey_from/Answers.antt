use Rattle.reg_tree.proofs.Invariant.NodeLemmas.{here_at, there_at, shallow_at}
use Rattle.reg_tree.proofs.KeyAnswers.SubkeysInTurn.{seen}
use Rattle.reg_tree.proofs.tree.Tree.subkey_from.Goals as goal

pub subkey_from-requires-clause-here : goal.subkey_from-requires-clause-here
subkey_from-requires-clause-here c = there_at _ _ c.self.invariant.0 _ c.self.view_is _ c.requires

pub subkey_from-requires-clause-depth : goal.subkey_from-requires-clause-depth
subkey_from-requires-clause-depth c = shallow_at _ _ c.self.invariant.0 _ c.self.view_is _ c.requires

pub returns : goal.returns
returns c = λ p at.
    seen _ _ c.self.invariant.0 _ c.self.view_is c.args.node p at c.args.index c.subkey_from.result
    (c.subkey_from.ensures (here_at _ _ c.self.invariant.0 _ c.self.view_is c.args.node p at))
