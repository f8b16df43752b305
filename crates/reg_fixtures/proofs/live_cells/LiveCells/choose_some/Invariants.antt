use Rattle.std.proofs.Common.{◌≡◌, ◌+◌, ◌-◌, length}
use Rattle.reg_fixtures.proofs.live_cells.LiveCells.choose_some.Given as goal

abbrev pub invariant-loop-i : goal.invariant-loop-i
invariant-loop-i l = record {
  left : length l.self.offsets.items ≡ length l.fn.self.offsets.items - l._i;
  chosen : length l.self.chosen.items + length l.self.offsets.items ≡ length l.fn.self.chosen.items + length l.fn.self.offsets.items;
  arena : l.self.arena ≡ l.fn.self.arena;
}
