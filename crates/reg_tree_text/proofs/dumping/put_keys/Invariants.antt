use Rattle.std.proofs.Common.{ℕ, List, ◌∷◌, ◌++◌, ◌-◌, length, string_bytes}
use Rattle.std.specs.Prelude.{flat_map}
use Rattle.reg_tree_text.specs.DumpTexts.{keys_told, key_lines}
use Rattle.reg_tree_text.specs.Internal.Gathered.{WriterState, IsSoFar}
use Rattle.reg_tree_text.specs.Internal.Walking.{IsAmid}
use Rattle.reg_tree_text.proofs.dumping.put_keys.Given as goal

abbrev pub invariant-loop-walk : goal.invariant-loop-walk
invariant-loop-walk g l =
    (amid : IsAmid l.tree l.walk l.counts) ×
    ((begin : WriterState) → (whole left : List ℕ) →
    IsSoFar begin (g.W.Sink.contents l.initial.writer, g.W.Sink.failures l.initial.writer) whole (flat_map key_lines (keys_told l.tree.tree) ++ left)
    (string_bytes l.initial.output.gathered) l.initial.output.written →
    IsSoFar begin (g.W.Sink.contents l.writer, g.W.Sink.failures l.writer) whole (flat_map key_lines (amid.here ∷ amid.rest) ++ left)
    (string_bytes l.output.gathered) l.output.written)

abbrev pub decreases-loop-walk : goal.decreases-loop-walk
decreases-loop-walk g l = length (keys_told l.tree.tree) - l.counts.keys
