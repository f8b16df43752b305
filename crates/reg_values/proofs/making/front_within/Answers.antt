use Rattle.std.proofs.Common.{◌≡◌, ◌≤◌, [], length, take, arith, subst}
use Rattle.reg_arena.specs.NewCells.{total_of}
use Rattle.reg_values.specs.declared.making.NewValue.{NewValue}
use Rattle.reg_values.specs.NewValues.{all_told, each_value_sizes}
use Rattle.reg_values.proofs.ValueChanges.ValuesPlanned.{small-at, total-more}
use Rattle.reg_values.proofs.making.front_within.Goals as goal

-- what stands behind a list's end
abbrev none : NewValue
none = record { name = record { ref_ptr = (0, 0); now = [] }; kind = 0; bytes = record { ref_ptr = (0, 0); now = [] } }

pub value_size-size-requires : goal.value_size-size-requires
value_size-size-requires c = small-at c.args.values.now c.loop-index.index none c.requires c.loop-index-test.true

pub returns-then-size-left-clause-longest : goal.returns-then-size-left-clause-longest
returns-then-size-left-clause-longest c = λ _.
    let more = total-more c.args.values.now c.loop-index.index none c.loop-index-test.true in
    let size = c.value_size-size.ensures in
    let large = c.if-size-left.true in
    let left = c.loop-index.invariant in
    omega (arith, more, size, large, left)

pub loop-index-preserved : goal.loop-index-preserved
loop-index-preserved c =
    let more = total-more c.args.values.now c.loop-index.index none c.loop-index-test.true in
    let size = c.value_size-size.ensures in
    let small = c.if-size-left.false in
    let left = c.loop-index.invariant in
    omega (arith, more, size, small, left)

pub returns-clause-fits : goal.returns-clause-fits
returns-clause-fits c =
    let values = c.args.values.now in
    let f = c.loop-index-test.false in
    let e = c.loop-index.auto.index-end in
    let left = c.loop-index.invariant in
    let same : c.loop-index.index ≡ length values = omega (arith, f, e) in
    subst (λ i. total_of (each_value_sizes (take i (all_told values))) ≤ c.args.most) same (omega (arith, left))
