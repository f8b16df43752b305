use Rattle.std.proofs.Common.{ℕ, List, ◌++◌, string_bytes}
use Rattle.std.specs.Prelude.{flat_map}
use Rattle.reg_tree_text.specs.DumpTexts.{Told}
use Rattle.reg_tree_text.specs.Internal.Gathered.{WriterState, IsSoFar}
use Rattle.reg_tree_text.specs.Internal.Walking.{Stands}
use Rattle.reg_tree_text.proofs.ListedKeys.{IsAmid}
use Rattle.reg_tables.specs.Internal.Layouts.{more_laid}
use Rattle.reg_tables.proofs.json_table.put_more.Given as goal

abbrev pub invariant-loop-key : goal.invariant-loop-key
invariant-loop-key g l =
    (here : Told) → (rest : List Told) → Stands l.tree l.fn.start here rest → (amid : IsAmid l.tree l.walk) ×
    ((begin : WriterState) → (whole left : List ℕ) →
    IsSoFar begin (g.S.Sink.contents l.initial.writer, g.S.Sink.failures l.initial.writer) whole (flat_map (more_laid l.layout) rest ++ left)
    (string_bytes l.initial.output.gathered) l.initial.output.written →
    IsSoFar begin (g.S.Sink.contents l.writer, g.S.Sink.failures l.writer) whole (flat_map (more_laid l.layout) amid.rest ++ left)
    (string_bytes l.output.gathered) l.output.written)
