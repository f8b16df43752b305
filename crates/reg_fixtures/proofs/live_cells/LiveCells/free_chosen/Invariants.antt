use Rattle.std.proofs.Common.{◌≡◌, ◌+◌, length}
use Rattle.reg_fixtures.specs.LiveCells.{FreesChosen}
use Rattle.reg_fixtures.proofs.live_cells.LiveCells.free_chosen.Given as goal

abbrev pub invariant-loop-i : goal.invariant-loop-i
invariant-loop-i l = record {
  left : length l.self.chosen.items + l._i ≡ length l.fn.self.chosen.items;
  freed : FreesChosen l.fn.self.arena.bytes l.self.arena.bytes l.fn.self.chosen.items l.self.chosen.items;
}
