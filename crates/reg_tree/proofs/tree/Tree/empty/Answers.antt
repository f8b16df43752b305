use Rattle.std.proofs.Common.{refl}
use Rattle.reg_tree.proofs.Invariant.LengthsSeen.{lengths_seen}
use Rattle.reg_tree.proofs.Invariant.NodeLemmas.{here_at, there_at}
use Rattle.reg_tree.proofs.PruneTree.PruneSeen.{emptied_then, nodes_then}
use Rattle.reg_tree.proofs.ValueChange.NotedNames.{none_noted}
use Rattle.reg_tree.proofs.tree.Tree.empty.Goals as goal

pub empty-requires : goal.empty-requires
empty-requires c = (there_at _ _ c.self.invariant.0 _ c.self.view_is _ c.requires.node, refl)

pub invariant_of-self : goal.invariant_of-self
invariant_of-self c = (
  (c.empty.ensures.emptied (there_at _ _ c.self.invariant.0 _ c.self.view_is _ c.requires.node) refl).holds,
  none_noted _ _ _ c.forget.ensures,
)

pub returns-clause-tree : goal.returns-clause-tree
returns-clause-tree c = λ p at.
    emptied_then _ _ c.self.invariant.0 _ c.self.view_is c.empty.new.arena c.args.moment p
    (c.empty.ensures.emptied (here_at _ _ c.self.invariant.0 _ c.self.view_is c.args.node p at) refl)

pub returns-clause-nodes : goal.returns-clause-nodes
returns-clause-nodes c = λ p at.
    nodes_then _ _ c.self.invariant.0 _ c.self.view_is c.empty.new.arena c.args.moment p
    (c.empty.ensures.emptied (here_at _ _ c.self.invariant.0 _ c.self.view_is c.args.node p at) refl)

pub returns-clause-lengths : goal.returns-clause-lengths
returns-clause-lengths c =
    lengths_seen _ _ _ c.self.view_is c.empty.new.arena (c.empty.ensures.lengths (there_at _ _ c.self.invariant.0 _ c.self.view_is _ c.requires.node))
