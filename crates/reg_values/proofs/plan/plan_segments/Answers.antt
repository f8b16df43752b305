use Rattle.std.proofs.Common.{◌+◌, sym, subst}
use Rattle.reg_values.proofs.ValueChanges.PlannedSizes.{Sized, sized-none, sized-more, sized-all, piece-size}
use Rattle.reg_values.proofs.plan.plan_segments.Goals as goal

pub loop-index-init : goal.loop-index-init
loop-index-init c = sized-none c.args.count c.args.size c.args.sizes.now.items

pub loop-index-preserved : goal.loop-index-preserved
loop-index-preserved c =
    subst (λ done. Sized c.args.count c.args.size (c.loop-index.index + 1) c.args.sizes.now.items done) (sym c.in_ok-push.ensures.items)
    (sized-more c.args.count c.args.size c.loop-index.index c.cell_size.result c.args.sizes.now.items c.loop-index.sizes.items c.loop-index-test.true
    (piece-size c.args.size c.loop-index.index c.cell_size.result c.min.result c.min.ensures c.cell_size.ensures.size) c.loop-index.invariant)

pub returns : goal.returns
returns c = sized-all c.args.count c.args.size c.loop-index.index c.args.sizes.now.items c.loop-index.sizes.items c.loop-index-test.false c.loop-index.invariant
