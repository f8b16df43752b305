use Rattle.std.proofs.Common.{◌≡◌, ℕ, List, ◌++◌, ◌&&◌, drop, string_bytes}
use Rattle.std.specs.Prelude.{flat_map}
use Rattle.reg_heap.specs.Paths.{Path}
use Rattle.reg_heap.specs.Edits.{values_at}
use Rattle.reg_tree.specs.TreeKeys.{IsAt}
use Rattle.reg_tree_text.specs.Internal.Gathered.{WriterState, IsSoFar}
use Rattle.reg_diff.specs.Differences.{lost_line}
use Rattle.reg_diff.specs.Internal.Parts.{is_nothing}
use Rattle.reg_diff.proofs.values.put_lost_values.Given as goal

abbrev pub invariant-loop-index : goal.invariant-loop-index
invariant-loop-index g l =
    (p q : Path) → IsAt l.old p l.node → IsAt l.new q l.found →
    (is_nothing (flat_map (lost_line l.path (values_at l.new.tree q)) (values_at l.old.tree p)) ≡
    (l.is_quiet && is_nothing (flat_map (lost_line l.path (values_at l.new.tree q)) (drop l.index (values_at l.old.tree p))))) ×
    ((begin : WriterState) → (whole left : List ℕ) →
    IsSoFar begin (g.W.Sink.contents l.initial.writer, g.W.Sink.failures l.initial.writer) whole
    (flat_map (lost_line l.path (values_at l.new.tree q)) (values_at l.old.tree p) ++ left)
    (string_bytes l.initial.output.gathered) l.initial.output.written →
    IsSoFar begin (g.W.Sink.contents l.writer, g.W.Sink.failures l.writer) whole
    (flat_map (lost_line l.path (values_at l.new.tree q)) (drop l.index (values_at l.old.tree p)) ++ left)
    (string_bytes l.output.gathered) l.output.written)
