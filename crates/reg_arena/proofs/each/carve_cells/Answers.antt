use Rattle.std.proofs.Common.{◌∙◌, ◌++◌, ap}
use Rattle.reg_heap.specs.Heaps.{AreNew}
use Rattle.reg_arena.specs.Cells.{cell_at}
use Rattle.reg_arena.specs.EachCell.{EachFalling}
use Rattle.reg_arena.proofs.each.carve_cells.Goals as goal

pub returns-clause-ok : goal.returns-clause-ok
returns-clause-ok c =
    let each = c.carve_all.ensures.each in
    let falling : EachFalling c.args.bins.now.items c.carve_all.new.bins.items c.args.sizes.now each.0 = rw (← c.spares_for.ensures.items) each.2 in
    let new : AreNew (cell_at c.args.bins.now.items) (cell_at c.carve_all.new.bins.items) each.0 c.args.sizes.now = rw (← c.spares_for.ensures.items) each.3 in
    (each.0, each.1 ∙ ap (λ items. items ++ each.0) c.reserve.ensures.items, falling, new)

pub carve_all-requires-clause-reserved : goal.carve_all-requires-clause-reserved
carve_all-requires-clause-reserved c = rw c.spares_for.ensures.items c.in-Ok.ensures.ok
