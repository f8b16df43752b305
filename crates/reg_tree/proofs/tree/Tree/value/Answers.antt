use Rattle.std.proofs.Common.{◌≡◌, ◌≤◌, Some, length, slice_get}
use Rattle.std.specs.Prelude.{MatchOption}
use Rattle.reg_heap.specs.Paths.{Tree, Member}
use Rattle.reg_heap.specs.Edits.{values_at}
use Rattle.reg_values.specs.ValueLists.{Tells}
use Rattle.reg_tree.proofs.Invariant.NodeLemmas.{here_at, there_at, of_tree}
use Rattle.reg_tree.proofs.tree.Tree.value.Goals as goal

pub at-requires : goal.at-requires
at-requires c = there_at _ _ c.self.invariant.0 _ c.self.view_is _ c.requires

pub returns-clause-told : goal.returns-clause-told
returns-clause-told c = λ p at.
    of_tree _ _ c.self.invariant.0 _ c.self.view_is (λ (t : Tree). MatchOption c.at.result (length (values_at t p) ≤ c.args.index)
    (λ value. (member : Member) × (slice_get (values_at t p) c.args.index ≡ Some member) × Tells member value.name.now value.kind value.size))
    (c.at.ensures.told (here_at _ _ c.self.invariant.0 _ c.self.view_is c.args.node p at))
