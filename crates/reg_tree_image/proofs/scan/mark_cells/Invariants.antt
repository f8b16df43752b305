use Rattle.std.proofs.Common.{◌≡◌, ◌-◌, length}
use Rattle.reg_tree_image.proofs.NamedCells.CellMarks.{AreNoted}
use Rattle.reg_tree_image.proofs.scan.mark_cells.Given as goal

abbrev pub invariant-loop-at : goal.invariant-loop-at
invariant-loop-at l = AreNoted l.bins l.from l.at l.stop l.initial.table.states.items l.table.states.items × (length l.table.states.items ≡ length l.initial.table.states.items)

abbrev pub decreases-loop-at : goal.decreases-loop-at
decreases-loop-at l = l.stop - l.at
