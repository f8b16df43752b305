use Rattle.std.proofs.Common.{◌≡◌, ◌+◌, length}
use Rattle.reg_fixtures.proofs.live_cells.LiveCells.carve_some.Given as goal

abbrev pub invariant-loop-i : goal.invariant-loop-i
invariant-loop-i l = length l.self.offsets.items ≡ length l.fn.self.offsets.items + l._i
