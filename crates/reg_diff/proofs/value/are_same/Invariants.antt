use Rattle.std.proofs.Common.{◌≡◌, drop}
use Rattle.reg_heap.specs.Paths.{Path}
use Rattle.reg_heap.specs.Edits.{values_at}
use Rattle.reg_tree.specs.TreeKeys.{IsAt}
use Rattle.reg_diff.specs.Differences.{same_members}
use Rattle.reg_diff.proofs.value.are_same.Given as goal

abbrev pub invariant-loop-index : goal.invariant-loop-index
invariant-loop-index l =
    (p q : Path) → IsAt l.tree p l.node → IsAt l.other q l.found →
    same_members (values_at l.tree.tree p) (values_at l.other.tree q) ≡
    same_members (drop l.index (values_at l.tree.tree p)) (drop l.index (values_at l.other.tree q))
