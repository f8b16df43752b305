use Rattle.std.proofs.Common.{◌≡◌, ◌<◌, ◌≤◌, ◌++◌, length, drop, Some, slice_get}
use Rattle.reg_heap.specs.Paths.{Tree, Member}
use Rattle.reg_heap.specs.Edits.{values_at}
use Rattle.reg_tree.proofs.Invariant.NodeLemmas.{here_at, to_tree, of_tree}
use Rattle.reg_tree.proofs.tree.Tree.fill_value.Goals as goal

pub fill-requires-clause-value : goal.fill-requires-clause-value
fill-requires-clause-value c = (
  here_at _ _ c.self.invariant.0 _ c.self.view_is c.args.node c.requires.value.0 c.requires.value.1,
  to_tree _ _ c.self.invariant.0 _ c.self.view_is (λ (t : Tree). c.args.index < length (values_at t c.requires.value.0)) c.requires.value.2,
)

pub fill-requires-clause-room : goal.fill-requires-clause-room
fill-requires-clause-room c = (
  here_at _ _ c.self.invariant.0 _ c.self.view_is c.args.node c.requires.value.0 c.requires.value.1,
  to_tree _ _ c.self.invariant.0 _ c.self.view_is (λ (t : Tree). (member : Member) →
      slice_get (values_at t c.requires.value.0) c.args.index ≡ Some member → length member.bytes ≤ length c.args.room.now)
      (c.requires.room c.requires.value.0 c.requires.value.1),
)

pub returns : goal.returns
returns c = λ p at.
    of_tree _ _ c.self.invariant.0 _ c.self.view_is (λ (t : Tree). (member : Member) × (slice_get (values_at t p) c.args.index ≡ Some member)
    × (c.fill.new.room ≡ member.bytes ++ drop (length member.bytes) c.args.room.now))
    (c.fill.ensures (here_at _ _ c.self.invariant.0 _ c.self.view_is c.args.node p at))
