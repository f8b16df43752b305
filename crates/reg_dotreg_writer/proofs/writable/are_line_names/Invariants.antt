use Rattle.std.proofs.Common.{◌≡◌, drop}
use Rattle.std.specs.List.{list_all}
use Rattle.reg_heap.specs.Paths.{Path}
use Rattle.reg_heap.specs.Edits.{values_at}
use Rattle.reg_tree.specs.TreeKeys.{IsAt}
use Rattle.reg_dotreg_writer.proofs.WritableNames.{is_named}
use Rattle.reg_dotreg_writer.proofs.writable.are_line_names.Given as goal

abbrev pub invariant-loop-index : goal.invariant-loop-index
invariant-loop-index l =
    (p : Path) → IsAt l.tree p l.node →
    list_all is_named (drop l.index (values_at l.tree.tree p)) ≡ list_all is_named (values_at l.tree.tree p)
