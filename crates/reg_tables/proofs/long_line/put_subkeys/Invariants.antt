use Rattle.std.proofs.Common.{ℕ, List, ◌++◌, drop, string_bytes}
use Rattle.std.specs.Prelude.{flat_map}
use Rattle.reg_heap.specs.Paths.{Path, children_of}
use Rattle.reg_tree.specs.TreeKeys.{IsAt}
use Rattle.reg_tree_text.specs.Internal.Gathered.{WriterState, IsSoFar}
use Rattle.reg_tree_text.proofs.ListedKeys.{IsNext}
use Rattle.reg_tables.proofs.LongLines.{child_at}
use Rattle.reg_tables.proofs.long_line.put_subkeys.Given as goal

abbrev pub invariant-loop-index : goal.invariant-loop-index
invariant-loop-index g l =
    (p : Path) → IsAt l.tree p l.node → IsNext l.tree p l.node l._index l.next ×
    ((begin : WriterState) → (whole left : List ℕ) →
    IsSoFar begin (g.S.Sink.contents l.initial.writer, g.S.Sink.failures l.initial.writer) whole
    (flat_map (child_at l.columns l.tree.tree) (children_of l.tree.tree p) ++ left) (string_bytes l.initial.output.gathered) l.initial.output.written →
    IsSoFar begin (g.S.Sink.contents l.writer, g.S.Sink.failures l.writer) whole
    (flat_map (child_at l.columns l.tree.tree) (drop l._index (children_of l.tree.tree p)) ++ left) (string_bytes l.output.gathered) l.output.written)
