use Rattle.std.proofs.Common.{◌≡◌, ◌+◌, ◌-◌, ◌≤◌, length, take, map, flat_map}
use Rattle.reg_heap.specs.Paths.{Path}
use Rattle.reg_heap.specs.Edits.{values_at}
use Rattle.reg_tree.specs.TreeKeys.{IsAt}
use Rattle.zugmeled.specs.Lists.{value_bytes, value_row}
use Rattle.zugmeled.specs.Internal.ValuesBehind.{IsPutAt}
use Rattle.zugmeled.proofs.with_values.tell_all.Given as goal

abbrev pub invariant-loop-index : goal.invariant-loop-index
invariant-loop-index l =
    (l.after.count ≡ l.fn.told.count + l.index) × (l.after.count + (l.index-end - l.index) ≤ length l.fn.rows) × ((p : Path) → IsAt l.tree p l.node →
    IsPutAt l.fn.told.count (map (value_row l.tree.tree) (take l.index (values_at l.tree.tree p))) l.fn.rows l.rows
    × IsPutAt l.fn.told.used (flat_map (value_bytes l.tree.tree) (take l.index (values_at l.tree.tree p))) l.fn.room l.room
    × (l.after.used ≡ l.fn.told.used + length (flat_map (value_bytes l.tree.tree) (take l.index (values_at l.tree.tree p)))))
