use Rattle.std.proofs.Common.{ℕ, List, ◌++◌, drop}
use Rattle.reg_heap.specs.Paths.{Path}
use Rattle.reg_heap.specs.Edits.{values_at}
use Rattle.reg_tree.specs.TreeKeys.{IsAt}
use Rattle.reg_tree_text.specs.Internal.Gathered.{WriterState, IsSoFar}
use Rattle.reg_dotreg_writer.specs.Internal.Pieces.{entries_pieces}
use Rattle.reg_dotreg_writer.proofs.block.put_values.Given as goal

abbrev pub invariant-loop-index : goal.invariant-loop-index
invariant-loop-index g l =
    (p : Path) → IsAt l.tree p l.node → (begin : WriterState) → (whole left : List ℕ) →
    IsSoFar begin (g.W.Sink.contents l.initial.writer, g.W.Sink.failures l.initial.writer) whole
    (entries_pieces l.is_utf8 (values_at l.tree.tree p) ++ left) l.initial.output.gathered.items l.initial.output.written →
    IsSoFar begin (g.W.Sink.contents l.writer, g.W.Sink.failures l.writer) whole
    (entries_pieces l.is_utf8 (drop l.index (values_at l.tree.tree p)) ++ left) l.output.gathered.items l.output.written
