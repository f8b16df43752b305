use Rattle.std.proofs.Common.{◌≡◌, ◌-◌, length, take, flat_map}
use Rattle.reg_heap.specs.Paths.{Path}
use Rattle.reg_tree.specs.TreeKeys.{IsAt}
use Rattle.zugmeled.specs.Lists.{AreTold, value_bytes, value_row, values_from}
use Rattle.zugmeled.proofs.lists.tell_values.Given as goal

abbrev pub invariant-loop-count : goal.invariant-loop-count
invariant-loop-count l =
    (p : Path) → IsAt l.tree p l.node →
    AreTold (value_row l.tree.tree) (value_bytes l.tree.tree) (values_from l.index l.tree.tree p) l.count l.initial.rows l.rows l.initial.room l.room
    × (l.used ≡ length (flat_map (value_bytes l.tree.tree) (take l.count (values_from l.index l.tree.tree p))))

abbrev pub decreases-loop-count : goal.decreases-loop-count
decreases-loop-count l = l.left - l.count
