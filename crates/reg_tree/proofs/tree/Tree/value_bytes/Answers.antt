use Rattle.std.proofs.Common.{◌≡◌, ◌≢◌, [], ◌<◌, length, Some, slice_get, sym, subst}
use Rattle.std.specs.Prelude.{IfOk, OnErr}
use Rattle.reg_heap.specs.Paths.{Tree, Member}
use Rattle.reg_heap.specs.Edits.{values_at}
use Rattle.reg_tree.specs.TreeKeys.{Keys}
use Rattle.reg_tree.proofs.Invariant.NodeLemmas.{here_at, of_tree}
use Rattle.reg_tree.proofs.tree.Tree.value_bytes.Goals as goal

pub bytes-requires : goal.bytes-requires
bytes-requires c = (
  here_at _ _ c.self.invariant.0 _ c.self.view_is c.args.node c.requires.0 c.requires.1,
  subst (λ (k : Keys). c.args.index < length (values_at k.tree c.requires.0)) (sym c.self.view_is) c.requires.2,
)

pub returns-clause-told : goal.returns-clause-told
returns-clause-told c = λ p at.
    of_tree _ _ c.self.invariant.0 _ c.self.view_is (λ (t : Tree). IfOk c.bytes.result (λ bytes. (member : Member) ×
    (slice_get (values_at t p) c.args.index ≡ Some member) × (bytes.items ≡ member.bytes)))
    (c.bytes.ensures.told (here_at _ _ c.self.invariant.0 _ c.self.view_is c.args.node p at))

pub returns-clause-empty : goal.returns-clause-empty
returns-clause-empty c = λ p at.
    of_tree _ _ c.self.invariant.0 _ c.self.view_is (λ (t : Tree). OnErr c.bytes.result ((member : Member) →
    slice_get (values_at t p) c.args.index ≡ Some member → member.bytes ≢ []))
    (c.bytes.ensures.empty (here_at _ _ c.self.invariant.0 _ c.self.view_is c.args.node p at))
