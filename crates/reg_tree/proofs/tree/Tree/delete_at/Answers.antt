use Rattle.std.proofs.Common.{refl}
use Rattle.reg_tree.proofs.DeleteKey.DeleteKeepsNodes.{tree_then, nodes_then}
use Rattle.reg_tree.proofs.DeleteKey.DeleteReached.{lone_at, lone_there, stands_there}
use Rattle.reg_tree.proofs.Invariant.LengthsSeen.{lengths_seen}
use Rattle.reg_tree.proofs.Invariant.NodeLemmas.{here_at}
use Rattle.reg_tree.proofs.ValueChange.NotedNames.{none_noted}
use Rattle.reg_tree.proofs.tree.Tree.delete_at.Goals as goal

pub delete_at-requires-clause-here : goal.delete_at-requires-clause-here
delete_at-requires-clause-here c = lone_there _ _ c.self.invariant.0 _ c.self.view_is c.args.reached c.requires.reached c.requires.there c.requires.goes

pub delete_at-requires-clause-place : goal.delete_at-requires-clause-place
delete_at-requires-clause-place c = stands_there _ _ c.self.invariant.0 _ c.self.view_is c.args.reached c.requires.reached c.requires.there c.requires.goes

pub invariant_of-self : goal.invariant_of-self
invariant_of-self c =
    let there = lone_there _ _ c.self.invariant.0 _ c.self.view_is c.args.reached c.requires.reached c.requires.there c.requires.goes in (
      (c.delete_at.ensures.deleted there.0 there.1 there.2).holds,
      none_noted _ _ _ c.forget.ensures,
    )

pub returns-clause-tree : goal.returns-clause-tree
returns-clause-tree c = λ p at.
    tree_then _ _ c.self.invariant.0 _ c.self.view_is c.delete_at.new.arena c.args.moment p
    (c.delete_at.ensures.deleted (here_at _ _ c.self.invariant.0 _ c.self.view_is c.args.reached.node p at) refl
    (lone_at _ _ c.self.invariant.0 _ c.self.view_is c.args.reached c.requires.reached c.requires.there c.requires.goes p at))

pub returns-clause-nodes : goal.returns-clause-nodes
returns-clause-nodes c = λ p at.
    nodes_then _ _ c.self.invariant.0 _ c.self.view_is c.delete_at.new.arena c.args.moment p
    (c.delete_at.ensures.deleted (here_at _ _ c.self.invariant.0 _ c.self.view_is c.args.reached.node p at) refl
    (lone_at _ _ c.self.invariant.0 _ c.self.view_is c.args.reached c.requires.reached c.requires.there c.requires.goes p at))

pub returns-clause-lengths : goal.returns-clause-lengths
returns-clause-lengths c =
    let there = lone_there _ _ c.self.invariant.0 _ c.self.view_is c.args.reached c.requires.reached c.requires.there c.requires.goes in
    lengths_seen _ _ _ c.self.view_is c.delete_at.new.arena (c.delete_at.ensures.lengths there.0 there.2)
