use Rattle.std.proofs.Common.{◌≡◌, ◌+◌, length, take, flat_map}
use Rattle.reg_heap.specs.Paths.{Path}
use Rattle.reg_heap.specs.Edits.{values_at}
use Rattle.reg_tree.specs.TreeKeys.{IsAt}
use Rattle.zugmeled.specs.Lists.{value_bytes}
use Rattle.zugmeled.proofs.with_values.have_place.Given as goal

abbrev pub invariant-loop-index : goal.invariant-loop-index
invariant-loop-index l =
    (p : Path) → IsAt l.tree p l.node → l.left + length (flat_map (value_bytes l.tree.tree) (take l.index (values_at l.tree.tree p))) ≡ l.room
