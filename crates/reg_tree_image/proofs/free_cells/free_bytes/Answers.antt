use Rattle.std.proofs.Common.{arith}
use Rattle.reg_tree_image.proofs.Anew.FreeSums.{bins-none, bin-cells, bin-counted, bins-counted, bins-few}
use Rattle.reg_tree_image.proofs.Devices.WrittenBins.{header-there, bin-some, bin-within}
use Rattle.reg_tree_image.proofs.free_cells.free_bytes.Goals as goal

pub loop-at-init : goal.loop-at-init
loop-at-init c = let sound = c.bins_size-end.ensures.sound in bins-none _ sound.bins sound.bins_are

pub bin_size-size-requires : goal.bin_size-size-requires
bin_size-size-requires c = header-there _ _ c.loop-at.invariant.boundary (rw c.bins_size-end.ensures.size at c.loop-at-test.true)

pub overflow_add-at-in-loop-at : goal.overflow_add-at-in-loop-at
overflow_add-at-in-loop-at c =
    let inside = rw c.bins_size-end.ensures.size at c.loop-at-test.true in
    let small = c.bins_size-end.ensures.sound.small in
    let within = bin-within _ _ c.loop-at.invariant.boundary inside c.bin_size-size.result c.bin_size-size.ensures in
    omega (arith, within, small)

pub free_to-free-requires : goal.free_to-free-requires
free_to-free-requires c =
    bin-cells _ _ _ c.loop-at.invariant (rw c.bins_size-end.ensures.size at c.loop-at-test.true) c.bin_size-size.result c.bin_size-size.ensures

pub overflow_add-free : goal.overflow_add-free
overflow_add-free c =
    let inside = rw c.bins_size-end.ensures.size at c.loop-at-test.true in
    let small = c.bins_size-end.ensures.sound.small in
    let within = bin-within _ _ c.loop-at.invariant.boundary inside c.bin_size-size.result c.bin_size-size.ensures in
    omega (arith, within, small, c.loop-at.invariant.within, c.free_to-free.ensures.within)

pub overflow_add-at-in-loop-at-2 : goal.overflow_add-at-in-loop-at-2
overflow_add-at-in-loop-at-2 c =
    let inside = rw c.bins_size-end.ensures.size at c.loop-at-test.true in
    let small = c.bins_size-end.ensures.sound.small in
    let within = bin-within _ _ c.loop-at.invariant.boundary inside c.bin_size-size.result c.bin_size-size.ensures in
    omega (arith, within, small)

pub loop-at-smaller : goal.loop-at-smaller
loop-at-smaller c =
    let inside = rw c.bins_size-end.ensures.size at c.loop-at-test.true in
    let some = bin-some _ _ c.loop-at.invariant.boundary inside c.bin_size-size.result c.bin_size-size.ensures in
    omega (arith, some, inside)

pub loop-at-preserved : goal.loop-at-preserved
loop-at-preserved c =
    bin-counted _ _ _ c.loop-at.invariant (rw c.bins_size-end.ensures.size at c.loop-at-test.true) c.bin_size-size.result c.bin_size-size.ensures
    c.free_to-free.result c.free_to-free.ensures.free c.free_to-free.ensures.within

pub returns-clause-free : goal.returns-clause-free
returns-clause-free c =
    bins-counted _ _ _ c.loop-at.invariant (omega (arith, c.loop-at-test.false, c.bins_size-end.ensures.size))

pub returns-clause-within : goal.returns-clause-within
returns-clause-within c = bins-few _ _ _ c.loop-at.invariant
