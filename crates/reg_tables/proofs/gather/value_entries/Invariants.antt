use Rattle.reg_heap.specs.Paths.{Path}
use Rattle.reg_heap.specs.Edits.{values_at}
use Rattle.reg_tree.specs.TreeKeys.{IsAt}
use Rattle.reg_tables.proofs.GatheredKeys.{AreGathered}
use Rattle.reg_tables.proofs.gather.value_entries.Given as goal

abbrev pub invariant-loop-index : goal.invariant-loop-index
invariant-loop-index l = (p : Path) → IsAt l.tree p l.node → AreGathered (values_at l.tree.tree p) l.index l.entries.items
