use Rattle.std.proofs.Common.{◌≡◌, ℕ, List, ◌++◌, Some, string_bytes}
use Rattle.std.specs.Prelude.{flat_map}
use Rattle.reg_heap.specs.Paths.{Path}
use Rattle.reg_tree_text.specs.Internal.Gathered.{WriterState, IsSoFar}
use Rattle.reg_tree_text.specs.PathQueries.{key_at}
use Rattle.reg_diff.specs.Differences.{told_changes, side_text}
use Rattle.reg_diff.proofs.ToldPaths.{IsTelling}
use Rattle.reg_diff.proofs.diffing.put_side.Given as goal

abbrev pub invariant-loop-key : goal.invariant-loop-key
invariant-loop-key g l =
    (p : Path) → key_at l.tree.tree l.path ≡ Some p → (w : IsTelling l.tree p l.walk) ×
    ((begin : WriterState) → (whole left : List ℕ) →
    IsSoFar begin (g.W.Sink.contents l.initial.writer, g.W.Sink.failures l.initial.writer) whole
    (side_text l.ignored l.side l.tree.tree l.other.tree p ++ left) (string_bytes l.initial.output.gathered) l.initial.output.written →
    IsSoFar begin (g.W.Sink.contents l.writer, g.W.Sink.failures l.writer) whole
    (flat_map (told_changes l.ignored l.side l.other.tree) w.now ++ left) (string_bytes l.output.gathered) l.output.written)
