use Rattle.std.proofs.Common.{refl, sym, ◌∙◌}
use Rattle.reg_tree_image.proofs.Readers.FewNames.{one-found, not-named, none-found}
use Rattle.reg_tree_image.proofs.met_names.is_one_named.Goals as goal

pub loop-value-init : goal.loop-value-init
loop-value-init c = refl

pub loop-value-preserved : goal.loop-value-preserved
loop-value-preserved c =
    not-named c.args.values.now c.args.name.now c.loop-value.value-index c.value-item.result _ c.loop-value-test.true c.value-item.is
    (sym c.is_named.ensures ∙ c.if-is_named.false) c.loop-value.invariant

pub returns-then-is_named : goal.returns-then-is_named
returns-then-is_named c =
    sym (one-found c.args.values.now c.args.name.now c.loop-value.value-index c.value-item.result _ c.loop-value-test.true c.value-item.is
    (sym c.is_named.ensures ∙ c.if-is_named.true))

pub returns : goal.returns
returns c = sym (none-found c.args.values.now c.args.name.now c.loop-value.value-index c.loop-value-test.false c.loop-value.invariant)
