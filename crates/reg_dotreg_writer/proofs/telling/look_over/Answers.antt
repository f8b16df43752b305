use Rattle.std.proofs.Common.{arith, ap, ◌∙◌, ◌&&◌, ◌||◌, not}
use Rattle.std.specs.FinMap.{get}
use Rattle.reg_heap.specs.Paths.{Member}
use Rattle.reg_heap.specs.Edits.{values_at}
use Rattle.reg_tree_text.proofs.LineTexts.{next_value}
use Rattle.reg_dotreg_writer.specs.Entries.{is_line_name}
use Rattle.reg_dotreg_writer.specs.Changes.{is_told}
use Rattle.reg_dotreg_writer.proofs.ToldValues.{any-next, fine-next, any-all, fine-all}
use Rattle.reg_dotreg_writer.proofs.telling.look_over.Goals as goal

pub loop-index-preserved : goal.loop-index-preserved
loop-index-preserved c =
    λ p q at r.
    (let e = c.values-index-end.ensures p at in
    let values = values_at c.args.tree.now.tree p in
    let o = get c.args.other.now.tree q in
    let n = next_value values c.loop-index.index (omega (arith, e)) in
    let v = c.loop-index.invariant p q at r in
    let m = c.in_ok-value.ensures p at n.0 n.1 in
    let t = c.in_ok-told.ensures q r ∙ ap (is_told o c.args.side) m in (
      any-next o c.args.side values c.loop-index.index n.0 _ _ _ n.2 v.0 t c.with_value-seen.ensures.any,
      fine-next o c.args.side values c.loop-index.index n.0 _ _ _ n.2 v.1 t
          (c.with_value-seen.ensures.fine ∙ ap (λ (x : Member). c.loop-index.seen.are_fine && (not c.in_ok-told.told || is_line_name x.name)) m),
    ))

pub returns-clause-any : goal.returns-clause-any
returns-clause-any c =
    λ p q at r.
    (let e = c.values-index-end.ensures p at in
    any-all (get c.args.other.now.tree q) c.args.side (values_at c.args.tree.now.tree p) c.loop-index.index _ (omega (arith, e))
    (c.loop-index.invariant p q at r).0)

pub returns-clause-fine : goal.returns-clause-fine
returns-clause-fine c =
    λ p q at r.
    (let e = c.values-index-end.ensures p at in
    fine-all (get c.args.other.now.tree q) c.args.side (values_at c.args.tree.now.tree p) c.loop-index.index _ (omega (arith, e))
    (c.loop-index.invariant p q at r).1)
