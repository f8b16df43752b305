use Rattle.std.proofs.Common.{◌≡◌, []}
use Rattle.reg_heap.specs.Paths.{Tree}
use Rattle.reg_heap.specs.Edits.{values_at}
use Rattle.reg_values.specs.NewValues.{all_told, all_value_sizes}
use Rattle.reg_tree.specs.TreeKeys.{Keys}
use Rattle.reg_tree.proofs.Invariant.NodeLemmas.{there_at, to_tree, holds_then, changed_ok, changed_nodes}
use Rattle.reg_tree.proofs.Invariant.LengthsSeen.{lengths_changed}
use Rattle.reg_tree.proofs.ValueChange.ValueCells.{takes_seen}
use Rattle.reg_tree.proofs.ValueChange.NotedNames.{none_noted}
use Rattle.reg_tree.proofs.tree.Tree.build_values.Goals as goal

pub build-requires-clause-bare : goal.build-requires-clause-bare
build-requires-clause-bare c =
    let n = c.requires.node in (
      there_at _ _ c.self.invariant.0 _ c.self.view_is _ n,
      to_tree _ _ c.self.invariant.0 _ c.self.view_is (λ (t : Tree). values_at t n.0 ≡ []) (c.requires.bare n.0 n.1),
    )

pub invariant_of-self : goal.invariant_of-self
invariant_of-self c = (
  holds_then _ _ c.self.invariant.0 _ c.self.view_is _ c.build.result c.args.node c.requires.node _ c.build.ensures.ok c.build.ensures.err,
  none_noted _ _ _ c.forget.ensures,
)

pub returns-clause-ok : goal.returns-clause-ok
returns-clause-ok c =
    changed_ok _ _ c.self.invariant.0 _ c.self.view_is _ c.build.result c.args.node c.requires.node _ c.build.ensures.ok c.build.ensures.err

pub returns-clause-nodes : goal.returns-clause-nodes
returns-clause-nodes c =
    changed_nodes _ _ c.self.invariant.0 _ c.self.view_is _ c.build.result c.args.node c.requires.node _ c.build.ensures.ok c.build.ensures.err

pub returns-clause-lengths : goal.returns-clause-lengths
returns-clause-lengths c = lengths_changed _ _ c.self.invariant.0 _ c.self.view_is _ c.build.result c.args.node _ c.build.ensures.lengths

pub returns-clause-takes : goal.returns-clause-takes
returns-clause-takes c =
    takes_seen _ _ _ c.self.view_is c.build.new.arena c.build.result (λ (keys : Keys). all_value_sizes c.args.room (all_told c.args.values.now))
    c.build.ensures.cells c.build.ensures.stay c.build.ensures.growth c.build.ensures.kept
