use Rattle.std.proofs.Common.{sym, ◌∙◌, length, ◌≡◌, ◌≤◌, ◌<◌, None}
use Rattle.reg_heap.specs.declared.limits.TheConstants.{VALUES_LIMIT}
use Rattle.reg_heap.specs.Paths.{Tree}
use Rattle.reg_heap.specs.Edits.{values_at}
use Rattle.reg_tree.specs.declared.fault.TreeFault.TheVariants.{Limit}
use Rattle.reg_tree.proofs.Invariant.NodeLemmas.{here_at, of_tree}
use Rattle.reg_tree.proofs.KeyAnswers.RefinementOfValues.{just_fault, no_fault, other_fault}
use Rattle.reg_tree.proofs.ValueChange.ValueAtPlace.{unnamed, not_full}
use Rattle.reg_tree.proofs.tree.Tree.set_value.Goals as goal

pub returns-then-is_full-clause-limit : goal.returns-then-is_full-clause-limit
returns-then-is_full-clause-limit c = λ p at.
    let full = c.is_full.ensures.full (here_at _ _ c.self.invariant.0 _ c.self.view_is c.args.node p at) c.if-is_full.true in
    just_fault Limit (
      of_tree _ _ c.self.invariant.0 _ c.self.view_is (λ (t : Tree). VALUES_LIMIT ≤ length (values_at t p)) full.0,
      unnamed c.args.name.now (values_at c.args.self.now.tree p) (sym (c.value_index-place.ensures p at) ∙ full.1),
    )

pub set_at-requires-clause-room : goal.set_at-requires-clause-room
set_at-requires-clause-room c = λ p at.
    of_tree _ _ c.self.invariant.0 _ c.self.view_is (λ (t : Tree). c.value_index-place.result ≡ None → length (values_at t p) < VALUES_LIMIT)
    (c.is_full.ensures.room (here_at _ _ c.self.invariant.0 _ c.self.view_is c.args.node p at) c.if-is_full.false)

pub returns-in-Ok-clause-limit : goal.returns-in-Ok-clause-limit
returns-in-Ok-clause-limit c = λ p at.
    let room =
    of_tree _ _ c.self.invariant.0 _ c.self.view_is (λ (t : Tree). c.value_index-place.result ≡ None → length (values_at t p) < VALUES_LIMIT)
    (c.is_full.ensures.room (here_at _ _ c.self.invariant.0 _ c.self.view_is c.args.node p at) c.if-is_full.false) in
    no_fault Limit (λ full. not_full c.args.name.now _ _ (c.value_index-place.ensures p at) room full.0 full.1)

pub returns-in-Err-clause-limit : goal.returns-in-Err-clause-limit
returns-in-Err-clause-limit c = λ p at.
    let room =
    of_tree _ _ c.self.invariant.0 _ c.self.view_is (λ (t : Tree). c.value_index-place.result ≡ None → length (values_at t p) < VALUES_LIMIT)
    (c.is_full.ensures.room (here_at _ _ c.self.invariant.0 _ c.self.view_is c.args.node p at) c.if-is_full.false) in
    other_fault c.in-Err.fault c.from.result c.from.ensures (λ full. not_full c.args.name.now _ _ (c.value_index-place.ensures p at) room full.0 full.1)
