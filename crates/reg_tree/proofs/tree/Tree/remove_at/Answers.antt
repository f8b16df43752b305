use Rattle.std.proofs.Common.{◌<◌, length}
use Rattle.reg_heap.specs.Paths.{Tree}
use Rattle.reg_heap.specs.Edits.{values_at}
use Rattle.reg_tree.proofs.Invariant.NodeLemmas.{here_at, to_tree, tree_then, nodes_then}
use Rattle.reg_tree.proofs.Invariant.LengthsSeen.{lengths_seen}
use Rattle.reg_tree.proofs.ValueChange.NotedNames.{none_noted}
use Rattle.reg_tree.proofs.tree.Tree.remove_at.Goals as goal

pub remove_at-requires : goal.remove_at-requires
remove_at-requires c = (
  here_at _ _ c.self.invariant.0 _ c.self.view_is c.args.node c.requires.0 c.requires.1,
  to_tree _ _ c.self.invariant.0 _ c.self.view_is (λ (t : Tree). c.args.index < length (values_at t c.requires.0)) c.requires.2,
)

pub invariant_of-self : goal.invariant_of-self
invariant_of-self c = (
  (c.remove_at.ensures.changed (here_at _ _ c.self.invariant.0 _ c.self.view_is c.args.node c.requires.0 c.requires.1)).holds,
  none_noted _ _ _ c.forget.ensures,
)

pub returns-clause-tree : goal.returns-clause-tree
returns-clause-tree c = λ p at.
    tree_then _ _ c.self.invariant.0 _ c.self.view_is c.remove_at.new.arena p _ (c.remove_at.ensures.changed (here_at _ _ c.self.invariant.0 _ c.self.view_is c.args.node p at))

pub returns-clause-nodes : goal.returns-clause-nodes
returns-clause-nodes c =
    nodes_then _ _ c.self.invariant.0 _ c.self.view_is c.remove_at.new.arena c.requires.0 _
    (c.remove_at.ensures.changed (here_at _ _ c.self.invariant.0 _ c.self.view_is c.args.node c.requires.0 c.requires.1))

pub returns-clause-lengths : goal.returns-clause-lengths
returns-clause-lengths c =
    lengths_seen _ _ _ c.self.view_is c.remove_at.new.arena (c.remove_at.ensures.lengths (here_at _ _ c.self.invariant.0 _ c.self.view_is c.args.node c.requires.0 c.requires.1))
