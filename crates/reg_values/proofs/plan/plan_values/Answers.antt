use Rattle.std.proofs.Common.{[]}
use Rattle.reg_values.specs.declared.making.NewValue.{NewValue}
use Rattle.reg_values.proofs.ValueChanges.ValuesPlanned.{small-at, sizes-more, sizes-all}
use Rattle.reg_values.proofs.plan.plan_values.Goals as goal

-- what stands behind a list's end
abbrev none : NewValue
none = record { name = record { ref_ptr = (0, 0); now = [] }; kind = 0; bytes = record { ref_ptr = (0, 0); now = [] } }

pub plan_value-requires : goal.plan_value-requires
plan_value-requires c = small-at c.args.values.now c.loop-value.value-index none c.requires c.loop-value-test.true

pub loop-value-preserved : goal.loop-value-preserved
loop-value-preserved c =
    sizes-more c.args.values.now c.loop-value.value-index none _ c.loop-value.sizes.items _ c.loop-value-test.true c.loop-value.invariant c.in_ok-plan_value.ensures

pub returns : goal.returns
returns c = sizes-all c.args.values.now c.loop-value.value-index _ _ c.loop-value-test.false c.loop-value.invariant
