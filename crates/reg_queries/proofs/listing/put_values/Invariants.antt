use Rattle.std.proofs.Common.{ℕ, List, ◌++◌, map, drop, string_bytes}
use Rattle.std.specs.Prelude.{flat_map}
use Rattle.reg_tree_image.specs.KeysAtPaths.{listed_in}
use Rattle.reg_tree_text.specs.Internal.Gathered.{WriterState, IsSoFar}
use Rattle.reg_queries.specs.KeyQueries.{member_line}
use Rattle.reg_queries.proofs.listing.put_values.Given as goal

abbrev pub invariant-loop-value : goal.invariant-loop-value
invariant-loop-value g l =
    (begin : WriterState) → (whole left : List ℕ) →
    IsSoFar begin (g.W.Sink.contents l.initial.writer, g.W.Sink.failures l.initial.writer) whole (flat_map member_line (map listed_in l.values) ++ left)
    (string_bytes l.initial.output.gathered) l.initial.output.written →
    IsSoFar begin (g.W.Sink.contents l.writer, g.W.Sink.failures l.writer) whole
    (flat_map member_line (map listed_in (drop l.value-index l.values)) ++ left) (string_bytes l.output.gathered) l.output.written
