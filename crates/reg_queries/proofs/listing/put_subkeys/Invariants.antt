use Rattle.std.proofs.Common.{ℕ, List, ◌++◌, drop, string_bytes}
use Rattle.std.specs.Prelude.{flat_map}
use Rattle.reg_tree_image.specs.KeysAtPaths.{names_in}
use Rattle.reg_tree_text.specs.Internal.Gathered.{WriterState, IsSoFar}
use Rattle.reg_tree_text.specs.Listings.{key_line}
use Rattle.reg_queries.proofs.listing.put_subkeys.Given as goal

abbrev pub invariant-loop-name : goal.invariant-loop-name
invariant-loop-name g l =
    (begin : WriterState) → (whole left : List ℕ) →
    IsSoFar begin (g.W.Sink.contents l.initial.writer, g.W.Sink.failures l.initial.writer) whole (flat_map key_line (names_in l.names) ++ left)
    (string_bytes l.initial.output.gathered) l.initial.output.written →
    IsSoFar begin (g.W.Sink.contents l.writer, g.W.Sink.failures l.writer) whole
    (flat_map key_line (names_in (drop l.name-index l.names)) ++ left) (string_bytes l.output.gathered) l.output.written
