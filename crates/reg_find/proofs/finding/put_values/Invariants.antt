use Rattle.std.proofs.Common.{◌≡◌, ℕ, List, ◌++◌, drop, string_bytes}
use Rattle.std.specs.Prelude.{flat_map}
use Rattle.reg_heap.specs.Paths.{Path}
use Rattle.reg_heap.specs.Edits.{values_at}
use Rattle.reg_tree.specs.TreeKeys.{IsAt}
use Rattle.reg_tree_text.specs.Internal.Gathered.{WriterState, IsSoFar}
use Rattle.reg_find.specs.Findings.{value_found}
use Rattle.reg_find.proofs.finding.put_values.Given as goal

abbrev pub invariant-loop-index : goal.invariant-loop-index
invariant-loop-index g l =
    (g.P.Pattern.matches l.pattern ≡ g.P.Pattern.matches l.initial.pattern) ×
    ((p : Path) → IsAt l.tree p l.walk.node → (begin : WriterState) → (whole left : List ℕ) →
    IsSoFar begin (g.W.Sink.contents l.initial.writer, g.W.Sink.failures l.initial.writer) whole
    (flat_map (value_found (g.P.Pattern.matches l.initial.pattern) l.scope l.walk.path.items) (values_at l.tree.tree p) ++ left)
    (string_bytes l.initial.output.gathered) l.initial.output.written →
    IsSoFar begin (g.W.Sink.contents l.writer, g.W.Sink.failures l.writer) whole
    (flat_map (value_found (g.P.Pattern.matches l.initial.pattern) l.scope l.walk.path.items) (drop l.index (values_at l.tree.tree p)) ++ left)
    (string_bytes l.output.gathered) l.output.written)
