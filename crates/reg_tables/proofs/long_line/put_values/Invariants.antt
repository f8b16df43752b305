use Rattle.std.proofs.Common.{ℕ, List, ◌++◌, drop, string_bytes}
use Rattle.reg_heap.specs.Paths.{Path}
use Rattle.reg_heap.specs.Edits.{values_at}
use Rattle.reg_tree.specs.TreeKeys.{IsAt}
use Rattle.reg_tree_text.specs.Internal.Gathered.{WriterState, IsSoFar}
use Rattle.reg_tables.specs.LongListings.{value_lines}
use Rattle.reg_tables.proofs.long_line.put_values.Given as goal

abbrev pub invariant-loop-index : goal.invariant-loop-index
invariant-loop-index g l =
    (p : Path) → IsAt l.tree p l.node → (begin : WriterState) → (whole left : List ℕ) →
    IsSoFar begin (g.S.Sink.contents l.initial.writer, g.S.Sink.failures l.initial.writer) whole (value_lines l.columns (values_at l.tree.tree p) ++ left)
    (string_bytes l.initial.output.gathered) l.initial.output.written →
    IsSoFar begin (g.S.Sink.contents l.writer, g.S.Sink.failures l.writer) whole (value_lines l.columns (drop l.index (values_at l.tree.tree p)) ++ left)
    (string_bytes l.output.gathered) l.output.written
