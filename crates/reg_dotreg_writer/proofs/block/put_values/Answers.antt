use Rattle.std.proofs.Common.{arith, ap, sym, drop, ◌+◌}
use Rattle.reg_heap.specs.Edits.{values_at}
use Rattle.reg_tree_text.proofs.SentTexts.{opened, swapped, exits}
use Rattle.reg_tree_text.proofs.LineTexts.{next_value}
use Rattle.reg_dotreg_writer.specs.Internal.Pieces.{entry_pieces, entries_pieces}
use Rattle.reg_dotreg_writer.proofs.block.put_values.Goals as goal

pub returns-in_err-put_value : goal.returns-in_err-put_value
returns-in_err-put_value g c =
    λ p at begin whole left s.
    (let e = c.values-index-end.ensures p at in
    let n = next_value (values_at c.args.tree.now.tree p) c.loop-index.index (omega (arith, e)) in
    exits _ _ _ _ c.from_residual.ensures.1
    (c.in_err-put_value.ensures p at n.0 n.1 begin whole _
    (opened begin _ whole (entry_pieces c.args.is_utf8 n.0.name n.0.kind n.0.bytes)
    (entries_pieces c.args.is_utf8 (drop (c.loop-index.index + 1) (values_at c.args.tree.now.tree p))) left _ _
    (swapped begin _ whole _ _ left _ _ (c.loop-index.invariant p at begin whole left s) (sym (ap (entries_pieces c.args.is_utf8) n.2))))))

pub loop-index-preserved : goal.loop-index-preserved
loop-index-preserved g c =
    λ p at begin whole left s.
    (let e = c.values-index-end.ensures p at in
    let n = next_value (values_at c.args.tree.now.tree p) c.loop-index.index (omega (arith, e)) in
    c.in_ok-put_value.ensures p at n.0 n.1 begin whole _
    (opened begin _ whole (entry_pieces c.args.is_utf8 n.0.name n.0.kind n.0.bytes)
    (entries_pieces c.args.is_utf8 (drop (c.loop-index.index + 1) (values_at c.args.tree.now.tree p))) left _ _
    (swapped begin _ whole _ _ left _ _ (c.loop-index.invariant p at begin whole left s) (sym (ap (entries_pieces c.args.is_utf8) n.2)))))
