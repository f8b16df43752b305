use Rattle.std.proofs.Common.{arith, length, []}
use Rattle.reg_heap.specs.Paths.{Member}
use Rattle.reg_values.specs.declared.making.NewValue.{NewValue}
use Rattle.reg_tree.proofs.ValueChange.ValuesBuilt.{larger, largest-put, largest-end, name-at}
use Rattle.reg_tree.proofs.build_values.longest_name.Goals as goal

-- what stands behind a list's end
abbrev none : NewValue
none = record { name = record { ref_ptr = (0, 0); now = [] }; kind = 0; bytes = record { ref_ptr = (0, 0); now = [] } }

pub overflow_cast-value : goal.overflow_cast-value
overflow_cast-value c =
    let s = name-at c.args.values.now c.loop-value.value-index none c.requires c.loop-value-test.true in
    omega (arith, s)

pub loop-value-preserved : goal.loop-value-preserved
loop-value-preserved c =
    let s = name-at c.args.values.now c.loop-value.value-index none c.requires c.loop-value-test.true in
    let e = larger _ _ _ c.max-longest.ensures in
    let i = c.loop-value.invariant.short in
    record {
      left =
          largest-put (λ (m : Member). length m.name) c.args.values.now c.loop-value.value-index none c.loop-value.longest _ _
          c.loop-value-test.true e c.loop-value.invariant.left;
      short = omega (arith, s, e, i);
    }

pub returns-clause-is : goal.returns-clause-is
returns-clause-is c =
    largest-end (λ (m : Member). length m.name) c.args.values.now c.loop-value.value-index _ _ c.loop-value-test.false
    c.loop-value.invariant.left
