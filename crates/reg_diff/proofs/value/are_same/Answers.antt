use Rattle.std.proofs.Common.{arith, sym, ap, ◌∙◌, ◌+◌, ◌&&◌, Bool, drop}
use Rattle.reg_heap.specs.Edits.{values_at}
use Rattle.reg_tree_text.proofs.LineTexts.{next_value}
use Rattle.reg_diff.specs.Differences.{same_members}
use Rattle.reg_diff.proofs.ReadValues.{same-next, same-pair}
use Rattle.reg_diff.proofs.value.are_same.Goals as goal

pub returns-then-not-is_same : goal.returns-then-not-is_same
returns-then-not-is_same c =
    λ p q at there.
    (let e = c.values-count.ensures p at in
    let f = c.values.ensures q there in
    let was = values_at c.args.tree.now.tree p in
    let is = values_at c.args.other.now.tree q in
    let n = next_value was c.loop-index.index (omega (arith, e)) in
    let m = next_value is c.loop-index.index (omega (arith, e, f)) in
    sym (same-next was is c.loop-index.index n.0 m.0 n.2 m.2 (c.loop-index.invariant p q at there)
    ∙ ap (λ (b : Bool). b && same_members (drop (c.loop-index.index + 1) was) (drop (c.loop-index.index + 1) is))
    (same-pair _ _ n.0 m.0 _ _ (c.in_ok-value.ensures p at n.0 n.1) (c.in_ok-like.ensures q there m.0 m.1) c.is_same.ensures
    c.if-not-is_same.true)))

pub loop-index-preserved : goal.loop-index-preserved
loop-index-preserved c =
    λ p q at there.
    (let e = c.values-count.ensures p at in
    let f = c.values.ensures q there in
    let was = values_at c.args.tree.now.tree p in
    let is = values_at c.args.other.now.tree q in
    let n = next_value was c.loop-index.index (omega (arith, e)) in
    let m = next_value is c.loop-index.index (omega (arith, e, f)) in
    same-next was is c.loop-index.index n.0 m.0 n.2 m.2 (c.loop-index.invariant p q at there)
    ∙ ap (λ (b : Bool). b && same_members (drop (c.loop-index.index + 1) was) (drop (c.loop-index.index + 1) is))
    (same-pair _ _ n.0 m.0 _ _ (c.in_ok-value.ensures p at n.0 n.1) (c.in_ok-like.ensures q there m.0 m.1) c.is_same.ensures
    c.if-not-is_same.false))
