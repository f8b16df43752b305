use Rattle.std.proofs.Common.{arith}
use Rattle.reg_tree_image.proofs.Anew.FreeSums.{free-none, field-there, cell-some, cell-within, part-fits, free-more, free-all, free-within}
use Rattle.reg_tree_image.proofs.free_cells.free_to.Goals as goal

pub loop-at-init : goal.loop-at-init
loop-at-init c = free-none _ _ _ c.requires

pub cell_from-cell-requires : goal.cell_from-cell-requires
cell_from-cell-requires c = field-there _ _ _ _ _ c.loop-at.invariant c.loop-at-test.true

pub overflow_add-free : goal.overflow_add-free
overflow_add-free c =
    let within = cell-within _ _ _ _ _ c.loop-at.invariant c.loop-at-test.true c.cell_from-cell.result c.cell_from-cell.ensures.size in
    let fits = part-fits _ _ _ _ _ c.loop-at.invariant c.loop-at-test.true c.cell_from-cell.result c.cell_from-cell.ensures.size
    c.cell_from-cell.ensures.allocated c.free_part-free.result c.free_part-free.ensures in
    omega (arith, within, fits)

pub overflow_add-at : goal.overflow_add-at
overflow_add-at c =
    let within = cell-within _ _ _ _ _ c.loop-at.invariant c.loop-at-test.true c.cell_from-cell.result c.cell_from-cell.ensures.size in
    omega (arith, within)

pub loop-at-smaller : goal.loop-at-smaller
loop-at-smaller c =
    let some = cell-some _ _ _ _ _ c.loop-at.invariant c.loop-at-test.true c.cell_from-cell.result c.cell_from-cell.ensures.size in
    omega (arith, some, c.loop-at-test.true)

pub loop-at-preserved : goal.loop-at-preserved
loop-at-preserved c =
    free-more _ _ _ _ _ c.loop-at.invariant c.loop-at-test.true c.cell_from-cell.result c.cell_from-cell.ensures.size
    c.cell_from-cell.ensures.allocated c.free_part-free.result c.free_part-free.ensures

pub returns-clause-free : goal.returns-clause-free
returns-clause-free c = free-all _ _ _ _ _ c.loop-at.invariant (omega (arith, c.loop-at-test.false))

pub returns-clause-within : goal.returns-clause-within
returns-clause-within c = free-within _ _ _ _ _ c.loop-at.invariant
