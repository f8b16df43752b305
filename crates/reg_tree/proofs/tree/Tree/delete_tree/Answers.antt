use Rattle.std.proofs.Common.{refl}
use Rattle.reg_tree.proofs.Invariant.LengthsSeen.{lengths_kept}
use Rattle.reg_tree.proofs.Invariant.NodeLemmas.{there_at}
use Rattle.reg_tree.proofs.PruneTree.PruneSeen.{pruned_holds, pruned_tree, pruned_nodes, kept_seen}
use Rattle.reg_tree.proofs.ValueChange.NotedNames.{none_noted}
use Rattle.reg_tree.proofs.tree.Tree.delete_tree.Goals as goal

pub delete_tree-requires : goal.delete_tree-requires
delete_tree-requires c = (there_at _ _ c.self.invariant.0 _ c.self.view_is _ c.requires, refl)

pub invariant_of-self : goal.invariant_of-self
invariant_of-self c = (
  pruned_holds _ _ c.self.invariant.0 _ c.self.view_is c.delete_tree.result c.args.node c.delete_tree.new.arena _ c.args.moment c.delete_tree.ensures.ok
      c.requires c.delete_tree.ensures.err c.delete_tree.ensures.table,
  none_noted _ _ _ c.forget.ensures,
)

pub returns-clause-ok : goal.returns-clause-ok
returns-clause-ok c =
    pruned_tree _ _ c.self.invariant.0 _ c.self.view_is c.delete_tree.result c.args.node c.delete_tree.new.arena _ c.args.moment c.delete_tree.ensures.ok

pub returns-clause-nodes : goal.returns-clause-nodes
returns-clause-nodes c =
    pruned_nodes _ _ c.self.invariant.0 _ c.self.view_is c.delete_tree.result c.args.node c.delete_tree.new.arena _ c.args.moment c.delete_tree.ensures.ok

pub returns-clause-kept : goal.returns-clause-kept
returns-clause-kept c = kept_seen _ _ c.self.invariant.0 _ c.self.view_is c.delete_tree.result c.args.node c.delete_tree.ensures.kept

pub returns-clause-lengths : goal.returns-clause-lengths
returns-clause-lengths c =
    lengths_kept _ _ c.self.invariant.0 _ c.self.view_is c.delete_tree.new.arena c.delete_tree.result c.args.node c.delete_tree.ensures.lengths c.requires
