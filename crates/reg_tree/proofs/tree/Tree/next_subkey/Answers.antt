use Rattle.reg_tree.proofs.Invariant.NodeLemmas.{here_at, there_at, shallow_at}
use Rattle.reg_tree.proofs.KeyAnswers.SubkeysInTurn.{next_seen, place_there}
use Rattle.reg_tree.proofs.tree.Tree.next_subkey.Goals as goal

pub next_subkey-requires-clause-here : goal.next_subkey-requires-clause-here
next_subkey-requires-clause-here c = there_at _ _ c.self.invariant.0 _ c.self.view_is _ (c.requires.0, c.requires.2)

pub next_subkey-requires-clause-depth : goal.next_subkey-requires-clause-depth
next_subkey-requires-clause-depth c = shallow_at _ _ c.self.invariant.0 _ c.self.view_is _ (c.requires.0, c.requires.2)

pub next_subkey-requires-clause-place : goal.next_subkey-requires-clause-place
next_subkey-requires-clause-place c =
    place_there _ _ c.self.invariant.0 _ c.self.view_is c.args.node c.requires.0 c.requires.2 c.requires.1 c.args.subkey c.requires.3

pub returns : goal.returns
returns c = λ p at index is.
    next_seen _ _ c.self.invariant.0 _ c.self.view_is c.args.node p at index c.args.subkey c.next_subkey.result is
    (c.next_subkey.ensures (here_at _ _ c.self.invariant.0 _ c.self.view_is c.args.node p at))
