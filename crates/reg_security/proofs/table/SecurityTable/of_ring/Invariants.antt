use Rattle.std.proofs.Common.{take}
use Rattle.reg_arena.specs.Arena.{heap_of}
use Rattle.reg_security.specs.Rings.{Finds}
use Rattle.reg_security.proofs.table.SecurityTable.of_ring.Given as goal

abbrev pub invariant-loop-cell : goal.invariant-loop-cell
invariant-loop-cell l = Finds l.table (heap_of l.arena) (take l.cell-index l.ring)
