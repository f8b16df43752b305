use Rattle.std.proofs.Common.{◌≡◌, take}
use Rattle.reg_arena.specs.NewCells.{total_of}
use Rattle.reg_arena.proofs.carve.sum_of.Given as goal

abbrev pub invariant-loop-size : goal.invariant-loop-size
invariant-loop-size l = l.total ≡ total_of (take l.size-index l.sizes)
