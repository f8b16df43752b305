use Rattle.std.proofs.Common.{◌≡◌, ℕ, List, ◌∷◌, ◌++◌, string_bytes}
use Rattle.std.specs.Prelude.{flat_map}
use Rattle.reg_tree_text.specs.Internal.Gathered.{WriterState, IsSoFar}
use Rattle.reg_find.specs.Findings.{found_lines, found_text}
use Rattle.reg_find.proofs.FoundKeys.{IsAmid}
use Rattle.reg_find.proofs.finding.put_tree.Given as goal

abbrev pub invariant-loop-key : goal.invariant-loop-key
invariant-loop-key g l =
    (amid : IsAmid l.tree l.walk) × (g.P.Pattern.matches l.pattern ≡ g.P.Pattern.matches l.initial.pattern) ×
    ((begin : WriterState) → (whole left : List ℕ) →
    IsSoFar begin (g.W.Sink.contents l.initial.writer, g.W.Sink.failures l.initial.writer) whole
    (found_text (g.P.Pattern.matches l.initial.pattern) l.scope l.tree.tree ++ left) (string_bytes l.initial.output.gathered) l.initial.output.written →
    IsSoFar begin (g.W.Sink.contents l.writer, g.W.Sink.failures l.writer) whole
    (flat_map (found_lines (g.P.Pattern.matches l.initial.pattern) l.scope) (amid.here ∷ amid.rest) ++ left)
    (string_bytes l.output.gathered) l.output.written)
