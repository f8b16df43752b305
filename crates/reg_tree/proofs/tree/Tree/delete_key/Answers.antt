use Rattle.std.proofs.Common.{refl}
use Rattle.reg_tree.proofs.DeleteKey.DeleteKeepsNodes.{deleted_holds, deleted_tree, deleted_nodes, children_seen, kept_seen}
use Rattle.reg_tree.proofs.Invariant.NodeLemmas.{there_at}
use Rattle.reg_tree.proofs.Invariant.LengthsSeen.{lengths_kept}
use Rattle.reg_tree.proofs.ValueChange.NotedNames.{none_noted}
use Rattle.reg_tree.proofs.tree.Tree.delete_key.Goals as goal

pub delete-requires : goal.delete-requires
delete-requires c = (there_at _ _ c.self.invariant.0 _ c.self.view_is _ c.requires, refl)

pub invariant_of-self : goal.invariant_of-self
invariant_of-self c = (
  deleted_holds _ _ c.self.invariant.0 _ c.self.view_is c.delete.result c.args.node c.delete.new.arena _ c.args.moment c.delete.ensures.ok c.requires c.delete.ensures.err c.delete.ensures.table,
  none_noted _ _ _ c.forget.ensures,
)

pub returns-clause-ok : goal.returns-clause-ok
returns-clause-ok c = deleted_tree _ _ c.self.invariant.0 _ c.self.view_is c.delete.result c.args.node c.delete.new.arena _ c.args.moment c.delete.ensures.ok

pub returns-clause-nodes : goal.returns-clause-nodes
returns-clause-nodes c = deleted_nodes _ _ c.self.invariant.0 _ c.self.view_is c.delete.result c.args.node c.delete.new.arena _ c.args.moment c.delete.ensures.ok

pub returns-clause-children : goal.returns-clause-children
returns-clause-children c = children_seen _ _ c.self.invariant.0 _ c.self.view_is c.delete.result c.args.node c.delete.ensures.children

pub returns-clause-kept : goal.returns-clause-kept
returns-clause-kept c = kept_seen _ _ c.self.invariant.0 _ c.self.view_is c.delete.result c.args.node c.delete.ensures.kept

pub returns-clause-lengths : goal.returns-clause-lengths
returns-clause-lengths c = lengths_kept _ _ c.self.invariant.0 _ c.self.view_is c.delete.new.arena c.delete.result c.args.node c.delete.ensures.lengths c.requires
