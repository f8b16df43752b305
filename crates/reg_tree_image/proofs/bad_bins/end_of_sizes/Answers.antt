use Rattle.std.proofs.Common.{arith, ◌∙◌, ap, sym}
use Rattle.reg_tree_image.specs.Internal.CellScans.{is_size_in}
use Rattle.reg_tree_image.proofs.NamedCells.BadBins.{none-sized, room-left, more-sized, size-found, none-found}
use Rattle.reg_tree_image.proofs.bad_bins.end_of_sizes.Goals as goal

pub loop-at-init : goal.loop-at-init
loop-at-init c = none-sized c.args.bins.now c.args.from c.args.stop c.requires.eights.0 c.requires.within.0

pub size_at-size-requires : goal.size_at-size-requires
size_at-size-requires c =
    let e = room-left _ _ _ _ c.loop-at.invariant c.requires.eights.1 c.loop-at-test.true in omega (arith, e, c.requires.within.1)

pub returns-then-not-is_size-clause-end : goal.returns-then-not-is_size-clause-end
returns-then-not-is_size-clause-end c =
    size-found c.args.bins.now c.args.from c.loop-at.at c.args.stop c.loop-at.invariant (omega (arith, c.loop-at-test.true))
    (ap (λ n. is_size_in n c.loop-at.at c.args.stop) (sym c.size_at-size.ensures) ∙ (sym c.is_size.ensures ∙ c.if-not-is_size.true))

pub loop-at-preserved : goal.loop-at-preserved
loop-at-preserved c =
    rw c.size_at-size.ensures (more-sized c.args.bins.now c.args.from c.loop-at.at c.args.stop c.loop-at.invariant c.loop-at-test.true
    (ap (λ n. is_size_in n c.loop-at.at c.args.stop) (sym c.size_at-size.ensures) ∙ (sym c.is_size.ensures ∙ c.if-not-is_size.false)))

pub returns-clause-end : goal.returns-clause-end
returns-clause-end c = none-found c.args.bins.now c.args.from c.loop-at.at c.args.stop c.loop-at.invariant c.loop-at-test.false
