use Rattle.std.proofs.Common.{ℕ, List, ◌++◌, string_bytes}
use Rattle.std.specs.Prelude.{flat_map}
use Rattle.reg_heap.specs.Paths.{Path}
use Rattle.reg_tree.specs.TreeKeys.{IsAt}
use Rattle.reg_tree_text.specs.Internal.Gathered.{WriterState, IsSoFar}
use Rattle.reg_tree_text.specs.Listings.{keys_below}
use Rattle.reg_tree_text.proofs.ListedKeys.{IsAmid}
use Rattle.reg_tables.specs.LongListings.{told_lines}
use Rattle.reg_tables.proofs.long_listing.put_below.Given as goal

abbrev pub invariant-loop-key : goal.invariant-loop-key
invariant-loop-key g l =
    (p : Path) → IsAt l.tree p l.fn.node → (amid : IsAmid l.tree l.walk) ×
    ((begin : WriterState) → (whole left : List ℕ) →
    IsSoFar begin (g.S.Sink.contents l.initial.writer, g.S.Sink.failures l.initial.writer) whole
    (flat_map (told_lines l.columns) (keys_below l.tree.tree p) ++ left) (string_bytes l.initial.output.gathered) l.initial.output.written →
    IsSoFar begin (g.S.Sink.contents l.writer, g.S.Sink.failures l.writer) whole (flat_map (told_lines l.columns) amid.rest ++ left)
    (string_bytes l.output.gathered) l.output.written)
