use Rattle.std.proofs.Common.{◌<◌, length, arith}
use Rattle.reg_fixtures.proofs.LiveCellLemmas.{live-chosen}
use Rattle.reg_fixtures.proofs.live_cells.LiveCells.choose_one.Goals as goal

pub invariant_of-self-2 : goal.invariant_of-self-2
invariant_of-self-2 c =
    let now = c.args.self.now in
    let some : 0 < c.len.result = omega (arith, now.offsets.ok.0) in
    let in_range : c.below-index.result < length now.offsets.items = omega (arith, now.offsets.ok.0, c.below-index.ensures some) in
    record { live = live-chosen _ _ _ now.live _ _ _ _ _ in_range c.swap_remove-cell.ensures.value c.swap_remove-cell.ensures.items c.push.ensures.items }
