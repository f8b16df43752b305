use Rattle.std.proofs.Common.{refl}
use Rattle.reg_tree.proofs.Invariant.LengthsSeen.{lengths_seen}
use Rattle.reg_tree.proofs.Invariant.NodeLemmas.{here_at}
use Rattle.reg_tree.proofs.PruneTree.PruneSeen.{pruned_then, others_then, node_reached, below_root}
use Rattle.reg_tree.proofs.ValueChange.NotedNames.{none_noted}
use Rattle.reg_tree.proofs.tree.Tree.delete_tree_at.Goals as goal

pub delete_tree_at-requires : goal.delete_tree_at-requires
delete_tree_at-requires c =
    let n = node_reached _ _ c.self.invariant.0 _ c.self.view_is c.args.reached c.requires.reached c.requires.there in
    record {
      here = (
        here_at _ _ c.self.invariant.0 _ c.self.view_is c.args.reached.node n.0 n.1,
        refl,
        below_root _ _ c.self.invariant.0 _ c.self.view_is c.args.reached c.requires.reached c.requires.there n.0 n.1,
      );
    }

pub invariant_of-self : goal.invariant_of-self
invariant_of-self c =
    let n = node_reached _ _ c.self.invariant.0 _ c.self.view_is c.args.reached c.requires.reached c.requires.there in (
      (c.delete_tree_at.ensures.pruned (here_at _ _ c.self.invariant.0 _ c.self.view_is c.args.reached.node n.0 n.1) refl
          (below_root _ _ c.self.invariant.0 _ c.self.view_is c.args.reached c.requires.reached c.requires.there n.0 n.1)).holds,
      none_noted _ _ _ c.forget.ensures,
    )

pub returns-clause-tree : goal.returns-clause-tree
returns-clause-tree c = λ p at.
    pruned_then _ _ c.self.invariant.0 _ c.self.view_is c.delete_tree_at.new.arena c.args.moment p
    (c.delete_tree_at.ensures.pruned (here_at _ _ c.self.invariant.0 _ c.self.view_is c.args.reached.node p at) refl
    (below_root _ _ c.self.invariant.0 _ c.self.view_is c.args.reached c.requires.reached c.requires.there p at))

pub returns-clause-nodes : goal.returns-clause-nodes
returns-clause-nodes c = λ p at.
    others_then _ _ c.self.invariant.0 _ c.self.view_is c.delete_tree_at.new.arena c.args.moment p
    (c.delete_tree_at.ensures.pruned (here_at _ _ c.self.invariant.0 _ c.self.view_is c.args.reached.node p at) refl
    (below_root _ _ c.self.invariant.0 _ c.self.view_is c.args.reached c.requires.reached c.requires.there p at))

pub returns-clause-lengths : goal.returns-clause-lengths
returns-clause-lengths c =
    let n = node_reached _ _ c.self.invariant.0 _ c.self.view_is c.args.reached c.requires.reached c.requires.there in
    lengths_seen _ _ _ c.self.view_is c.delete_tree_at.new.arena
    (c.delete_tree_at.ensures.lengths (here_at _ _ c.self.invariant.0 _ c.self.view_is c.args.reached.node n.0 n.1)
    (below_root _ _ c.self.invariant.0 _ c.self.view_is c.args.reached c.requires.reached c.requires.there n.0 n.1))
