use Rattle.reg_tree.proofs.Invariant.NodeLemmas.{here_at, there_at, shallow_at, subkey_found}
use Rattle.reg_tree.proofs.tree.Tree.subkey.Goals as goal

pub subkey-requires-clause-here : goal.subkey-requires-clause-here
subkey-requires-clause-here c = there_at _ _ c.self.invariant.0 _ c.self.view_is _ c.requires

pub subkey-requires-clause-depth : goal.subkey-requires-clause-depth
subkey-requires-clause-depth c = shallow_at _ _ c.self.invariant.0 _ c.self.view_is _ c.requires

pub returns : goal.returns
returns c = λ p at.
    subkey_found _ _ c.self.invariant.0 _ c.self.view_is c.args.node c.args.index c.subkey.result p at
    (c.subkey.ensures (here_at _ _ c.self.invariant.0 _ c.self.view_is c.args.node p at))
