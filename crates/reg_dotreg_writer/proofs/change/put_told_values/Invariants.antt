use Rattle.std.proofs.Common.{ℕ, List, ◌++◌, drop}
use Rattle.std.specs.FinMap.{get}
use Rattle.reg_heap.specs.Paths.{Path}
use Rattle.reg_heap.specs.Edits.{values_at}
use Rattle.reg_tree.specs.TreeKeys.{IsAt, IsResolved}
use Rattle.reg_tree_text.specs.Internal.Gathered.{WriterState, IsSoFar}
use Rattle.reg_dotreg_writer.specs.Internal.ChangePieces.{all_told_pieces}
use Rattle.reg_dotreg_writer.proofs.change.put_told_values.Given as goal

abbrev pub invariant-loop-index : goal.invariant-loop-index
invariant-loop-index g l =
    (p q : Path) → IsAt l.tree p l.node → IsResolved l.other q l.found → (begin : WriterState) → (whole left : List ℕ) →
    IsSoFar begin (g.W.Sink.contents l.initial.writer, g.W.Sink.failures l.initial.writer) whole
    (all_told_pieces l.is_utf8 (get l.other.tree q) l.side (values_at l.tree.tree p) ++ left)
    l.initial.output.gathered.items l.initial.output.written →
    IsSoFar begin (g.W.Sink.contents l.writer, g.W.Sink.failures l.writer) whole
    (all_told_pieces l.is_utf8 (get l.other.tree q) l.side (drop l.index (values_at l.tree.tree p)) ++ left)
    l.output.gathered.items l.output.written
