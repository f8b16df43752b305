use Rattle.std.proofs.Common.{arith, length, []}
use Rattle.reg_heap.specs.Paths.{Member}
use Rattle.reg_values.specs.declared.making.NewValue.{NewValue}
use Rattle.reg_values.proofs.ValueChanges.ValuesPlanned.{small-at}
use Rattle.reg_tree.proofs.ValueChange.ValuesBuilt.{larger, largest-put, largest-end}
use Rattle.reg_tree.proofs.build_values.largest_data.Goals as goal

-- what stands behind a list's end
abbrev none : NewValue
none = record { name = record { ref_ptr = (0, 0); now = [] }; kind = 0; bytes = record { ref_ptr = (0, 0); now = [] } }

pub overflow_cast-value : goal.overflow_cast-value
overflow_cast-value c =
    let s = (small-at c.args.values.now c.loop-value.value-index none c.requires c.loop-value-test.true).bytes in
    omega (arith, s)

pub loop-value-preserved : goal.loop-value-preserved
loop-value-preserved c =
    largest-put (λ (m : Member). length m.bytes) c.args.values.now c.loop-value.value-index none c.loop-value.most _ _
    c.loop-value-test.true (larger _ _ _ c.max-most.ensures) c.loop-value.invariant

pub returns : goal.returns
returns c =
    largest-end (λ (m : Member). length m.bytes) c.args.values.now c.loop-value.value-index _ _ c.loop-value-test.false
    c.loop-value.invariant
