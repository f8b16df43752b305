use Rattle.std.proofs.Common.{arith, ap}
use Rattle.std.specs.Prelude.{flat_map}
use Rattle.std.specs.FinMap.{get}
use Rattle.std.proofs.lemmas.List.{drop_all}
use Rattle.reg_heap.specs.Edits.{values_at}
use Rattle.reg_tree_text.proofs.SentTexts.{swapped, ends, stops_full, exits}
use Rattle.reg_tree_text.proofs.LineTexts.{next_value}
use Rattle.reg_diff.proofs.ReadValues.{line-next}
use Rattle.reg_dotreg_writer.specs.Internal.ChangePieces.{told_pieces}
use Rattle.reg_dotreg_writer.proofs.change.put_told_values.Goals as goal

pub returns-in_err-value : goal.returns-in_err-value
returns-in_err-value g c =
    λ p q at r begin whole left s.
    exits _ _ _ _ c.from_residual.ensures.1 (stops_full begin _ whole _ _ _ (c.loop-index.invariant p q at r begin whole left s))

pub returns-in_err-put_if_told : goal.returns-in_err-put_if_told
returns-in_err-put_if_told g c =
    λ p q at r begin whole left s.
    (let e = c.values-index-end.ensures p at in
    let f = told_pieces c.args.is_utf8 (get c.args.other.now.tree q) c.args.side in
    let n = next_value (values_at c.args.tree.now.tree p) c.loop-index.index (omega (arith, e)) in
    exits _ _ _ _ c.from_residual-in_err-put_if_told.ensures.1
    (c.in_err-put_if_told.ensures q r begin whole _
    (swapped begin _ whole _ _ _ _ _
    (line-next f (values_at c.args.tree.now.tree p) c.loop-index.index begin _ whole left _ _ n.0 n.2
    (c.loop-index.invariant p q at r begin whole left s))
    (ap f (c.in_ok-value.ensures p at n.0 n.1)))))

pub loop-index-preserved : goal.loop-index-preserved
loop-index-preserved g c =
    λ p q at r begin whole left s.
    (let e = c.values-index-end.ensures p at in
    let f = told_pieces c.args.is_utf8 (get c.args.other.now.tree q) c.args.side in
    let n = next_value (values_at c.args.tree.now.tree p) c.loop-index.index (omega (arith, e)) in
    c.in_ok-put_if_told.ensures q r begin whole _
    (swapped begin _ whole _ _ _ _ _
    (line-next f (values_at c.args.tree.now.tree p) c.loop-index.index begin _ whole left _ _ n.0 n.2
    (c.loop-index.invariant p q at r begin whole left s))
    (ap f (c.in_ok-value.ensures p at n.0 n.1))))

pub returns : goal.returns
returns g c =
    λ p q at r begin whole left s.
    (let e = c.values-index-end.ensures p at in
    ends begin _ whole _ left _ _ (c.loop-index.invariant p q at r begin whole left s)
    (ap (flat_map (told_pieces c.args.is_utf8 (get c.args.other.now.tree q) c.args.side))
    (drop_all c.loop-index.index (values_at c.args.tree.now.tree p) (omega (arith, e)))))
