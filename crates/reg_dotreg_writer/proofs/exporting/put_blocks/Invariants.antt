use Rattle.std.proofs.Common.{ℕ, List, ◌++◌}
use Rattle.std.specs.Prelude.{flat_map}
use Rattle.reg_tree_text.specs.DumpTexts.{Told}
use Rattle.reg_tree_text.specs.Internal.Gathered.{WriterState, IsSoFar}
use Rattle.reg_tree_text.specs.Internal.Walking.{Goes}
use Rattle.reg_dotreg_writer.specs.Internal.Pieces.{block_pieces}
use Rattle.reg_dotreg_writer.proofs.FileSteps.{IsWriting}
use Rattle.reg_dotreg_writer.proofs.exporting.put_blocks.Given as goal

abbrev pub invariant-loop-key : goal.invariant-loop-key
invariant-loop-key g l =
    (all : List Told) → Goes l.tree l.initial.walk all → (w : IsWriting l.tree l.walk) ×
    ((begin : WriterState) → (whole left : List ℕ) →
    IsSoFar begin (g.W.Sink.contents l.initial.writer, g.W.Sink.failures l.initial.writer) whole
    (flat_map (block_pieces l.is_utf8) all ++ left) l.initial.output.gathered.items l.initial.output.written →
    IsSoFar begin (g.W.Sink.contents l.writer, g.W.Sink.failures l.writer) whole
    (flat_map (block_pieces l.is_utf8) w.now ++ left) l.output.gathered.items l.output.written)
