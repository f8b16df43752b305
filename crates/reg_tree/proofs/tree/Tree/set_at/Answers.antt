use Rattle.std.proofs.Common.{◌≡◌, ◌<◌, length, None}
use Rattle.reg_heap.specs.declared.limits.TheConstants.{VALUES_LIMIT}
use Rattle.reg_heap.specs.Paths.{Tree}
use Rattle.reg_heap.specs.Edits.{values_at}
use Rattle.reg_heap.specs.Members.{index_named}
use Rattle.reg_arena.specs.Arena.{heap_of}
use Rattle.reg_tree.specs.CellSizes.{value_sizes}
use Rattle.reg_tree.specs.TreeKeys.{Keys}
use Rattle.reg_tree.proofs.Invariant.NodeLemmas.{there_at, to_tree, holds_then, changed_ok, changed_nodes}
use Rattle.reg_tree.proofs.Invariant.LengthsSeen.{lengths_changed}
use Rattle.reg_tree.proofs.ValueChange.NotedNames.{none_noted, set_noted}
use Rattle.reg_tree.proofs.ValueChange.ValueCells.{takes_seen}
use Rattle.reg_tree.proofs.tree.Tree.set_at.Goals as goal

pub expect-requires : goal.expect-requires
expect-requires c = there_at _ _ c.self.invariant.0 _ c.self.view_is _ c.requires.node

pub set_at-requires-clause-place : goal.set_at-requires-clause-place
set_at-requires-clause-place c =
    let n = c.requires.node in (
      there_at _ _ c.self.invariant.0 _ c.self.view_is _ n,
      to_tree _ _ c.self.invariant.0 _ c.self.view_is (λ (t : Tree). c.args.place ≡ index_named c.args.name.now (values_at t n.0)) (c.requires.place n.0 n.1),
    )

pub set_at-requires-clause-room : goal.set_at-requires-clause-room
set_at-requires-clause-room c =
    let n = c.requires.node in (
      there_at _ _ c.self.invariant.0 _ c.self.view_is _ n,
      to_tree _ _ c.self.invariant.0 _ c.self.view_is (λ (t : Tree). c.args.place ≡ None → length (values_at t n.0) < VALUES_LIMIT) (c.requires.room n.0 n.1),
    )

pub invariant_of-self : goal.invariant_of-self
invariant_of-self c = (c.self.invariant.0, none_noted _ _ _ c.in-Err.ensures.err)

pub invariant_of-self-2 : goal.invariant_of-self-2
invariant_of-self-2 c =
    let n = c.requires.node in (
      holds_then _ _ c.self.invariant.0 _ c.self.view_is _ c.set_at.result c.args.node n _ c.set_at.ensures.ok c.set_at.ensures.err,
      set_noted c.self.inside.names c.expect.new.self c.self.inside.arena c.set_at.new.arena c.self.inside.root c.self.invariant.0 c.self.invariant.1
          c.args.node.offset c.args.name.now c.args.kind c.args.bytes.now c.args.moment c.expect.ensures.noted c.expect.ensures.expected c.expect.ensures.kept
          c.set_at.result n.0 (there_at _ _ c.self.invariant.0 _ c.self.view_is _ n).at c.set_at.ensures.ok c.set_at.ensures.err,
    )

pub returns-clause-ok : goal.returns-clause-ok
returns-clause-ok c = changed_ok _ _ c.self.invariant.0 _ c.self.view_is _ c.set_at.result c.args.node c.requires.node _ c.set_at.ensures.ok c.set_at.ensures.err

pub returns-clause-nodes : goal.returns-clause-nodes
returns-clause-nodes c = changed_nodes _ _ c.self.invariant.0 _ c.self.view_is _ c.set_at.result c.args.node c.requires.node _ c.set_at.ensures.ok c.set_at.ensures.err

pub returns-clause-lengths : goal.returns-clause-lengths
returns-clause-lengths c = lengths_changed _ _ c.self.invariant.0 _ c.self.view_is _ c.set_at.result c.args.node _ c.set_at.ensures.lengths

pub returns-clause-takes : goal.returns-clause-takes
returns-clause-takes c =
    takes_seen _ _ _ c.self.view_is c.set_at.new.arena c.set_at.result
    (λ (keys : Keys). value_sizes (heap_of keys.bins) c.args.node.offset c.args.name.now (length c.args.bytes.now))
    c.set_at.ensures.cells c.set_at.ensures.stay c.set_at.ensures.growth c.set_at.ensures.kept
