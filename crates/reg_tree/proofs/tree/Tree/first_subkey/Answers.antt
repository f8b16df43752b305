use Rattle.reg_tree.proofs.Invariant.NodeLemmas.{here_at, there_at, shallow_at}
use Rattle.reg_tree.proofs.KeyAnswers.SubkeysInTurn.{first_seen}
use Rattle.reg_tree.proofs.tree.Tree.first_subkey.Goals as goal

pub first_subkey-requires-clause-here : goal.first_subkey-requires-clause-here
first_subkey-requires-clause-here c = there_at _ _ c.self.invariant.0 _ c.self.view_is _ c.requires

pub first_subkey-requires-clause-depth : goal.first_subkey-requires-clause-depth
first_subkey-requires-clause-depth c = shallow_at _ _ c.self.invariant.0 _ c.self.view_is _ c.requires

pub returns : goal.returns
returns c = λ p at.
    first_seen _ _ c.self.invariant.0 _ c.self.view_is c.args.node p at c.first_subkey.result
    (c.first_subkey.ensures (here_at _ _ c.self.invariant.0 _ c.self.view_is c.args.node p at))
