use Rattle.reg_tree_image.proofs.Readers.FewNames.{already-met, none-gathered, one-gathered, all-gathered}
use Rattle.reg_tree_image.proofs.met_names.MetNames.gather.Goals as goal

pub returns-then-before-ne-FEW-clause-met : goal.returns-then-before-ne-FEW-clause-met
returns-then-before-ne-FEW-clause-met c = already-met c.args.before.now _ c.requires.known c.requires.many c.if-before-ne-FEW.true

pub loop-value-init : goal.loop-value-init
loop-value-init c = none-gathered c.args.before.now _ c.requires.known c.if-before-ne-FEW.false

pub loop-value-preserved : goal.loop-value-preserved
loop-value-preserved c =
    one-gathered c.args.before.now c.loop-value.value-index c.value-item.result _ _ _ _ c.loop-value-test.true c.value-item.is
    c.as_slice.ensures.value c.loop-value.invariant c.in-Ok.ensures.met

pub returns-clause-met : goal.returns-clause-met
returns-clause-met c = all-gathered c.args.before.now _ _ c.loop-value-test.false c.loop-value.invariant
