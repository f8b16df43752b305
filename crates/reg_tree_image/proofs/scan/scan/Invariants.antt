use Rattle.std.proofs.Common.{◌-◌, ◌/◌, length, replicate}
use Rattle.reg_tree_image.specs.declared.table.CellState.TheVariants.{Unallocated}
use Rattle.reg_tree_image.proofs.NamedCells.BinTables.{OnScan}
use Rattle.reg_tree_image.proofs.scan.scan.Given as goal

abbrev pub invariant-loop-at : goal.invariant-loop-at
invariant-loop-at l = OnScan l.bins l.at (replicate (length l.bins / 8) Unallocated) l.table.states.items

abbrev pub decreases-loop-at : goal.decreases-loop-at
decreases-loop-at l = length l.bins - l.at
