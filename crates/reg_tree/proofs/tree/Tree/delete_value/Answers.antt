use Rattle.std.proofs.Common.{◌≡◌, ◌↔◌, None, Err}
use Rattle.reg_heap.specs.Paths.{Tree}
use Rattle.reg_heap.specs.Edits.{values_at}
use Rattle.reg_heap.specs.Members.{value_named}
use Rattle.reg_tree.specs.declared.fault.TreeFault.TheVariants.{NotFound}
use Rattle.reg_tree.proofs.Invariant.NodeLemmas.{here_at, there_at, of_tree, holds_then, changed_ok, changed_nodes}
use Rattle.reg_tree.proofs.Invariant.LengthsSeen.{lengths_kept}
use Rattle.reg_tree.proofs.ValueChange.NotedNames.{none_noted}
use Rattle.reg_tree.proofs.tree.Tree.delete_value.Goals as goal

pub delete-requires : goal.delete-requires
delete-requires c = there_at _ _ c.self.invariant.0 _ c.self.view_is _ c.requires

pub invariant_of-self : goal.invariant_of-self
invariant_of-self c = (
  holds_then _ _ c.self.invariant.0 _ c.self.view_is _ c.delete.result c.args.node c.requires _ c.delete.ensures.ok c.delete.ensures.err,
  none_noted _ _ _ c.forget.ensures,
)

pub returns-clause-ok : goal.returns-clause-ok
returns-clause-ok c = changed_ok _ _ c.self.invariant.0 _ c.self.view_is _ c.delete.result c.args.node c.requires _ c.delete.ensures.ok c.delete.ensures.err

pub returns-clause-nodes : goal.returns-clause-nodes
returns-clause-nodes c = changed_nodes _ _ c.self.invariant.0 _ c.self.view_is _ c.delete.result c.args.node c.requires _ c.delete.ensures.ok c.delete.ensures.err

pub returns-clause-absent : goal.returns-clause-absent
returns-clause-absent c = λ p at.
    of_tree _ _ c.self.invariant.0 _ c.self.view_is (λ (t : Tree). (c.delete.result ≡ Err NotFound) ↔ (value_named c.args.name.now (values_at t p) ≡ None))
    (c.delete.ensures.absent (here_at _ _ c.self.invariant.0 _ c.self.view_is c.args.node p at))

pub returns-clause-lengths : goal.returns-clause-lengths
returns-clause-lengths c = lengths_kept _ _ c.self.invariant.0 _ c.self.view_is c.delete.new.arena c.delete.result c.args.node c.delete.ensures.lengths c.requires
