use Rattle.std.proofs.Common.{ℕ, List, ◌++◌, string_bytes}
use Rattle.std.specs.Prelude.{flat_map}
use Rattle.reg_heap.specs.Paths.{Path}
use Rattle.reg_tree.specs.TreeKeys.{IsAt}
use Rattle.reg_tree_text.specs.Internal.Gathered.{WriterState, IsSoFar}
use Rattle.reg_tree_text.specs.Listings.{told_lines, keys_below}
use Rattle.reg_tree_text.proofs.ListedKeys.{IsAmid}
use Rattle.reg_tree_text.proofs.listing.put_below.Given as goal

abbrev pub invariant-loop-key : goal.invariant-loop-key
invariant-loop-key g l =
    (p : Path) → IsAt l.tree p l.fn.node → (amid : IsAmid l.tree l.walk) ×
    ((begin : WriterState) → (whole left : List ℕ) →
    IsSoFar begin (g.W.Sink.contents l.initial.writer, g.W.Sink.failures l.initial.writer) whole
    (flat_map told_lines (keys_below l.tree.tree p) ++ left) (string_bytes l.initial.output.gathered) l.initial.output.written →
    IsSoFar begin (g.W.Sink.contents l.writer, g.W.Sink.failures l.writer) whole (flat_map told_lines amid.rest ++ left)
    (string_bytes l.output.gathered) l.output.written)
