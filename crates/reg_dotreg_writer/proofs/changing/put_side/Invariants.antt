use Rattle.std.proofs.Common.{ℕ, List, ◌++◌}
use Rattle.std.specs.Prelude.{flat_map}
use Rattle.reg_tree_text.specs.Internal.Gathered.{WriterState, IsSoFar}
use Rattle.reg_dotreg_writer.specs.Changes.{changes_of}
use Rattle.reg_dotreg_writer.specs.Internal.ChangePieces.{change_pieces}
use Rattle.reg_dotreg_writer.proofs.ToldChanges.{IsGoing, all_changes}
use Rattle.reg_dotreg_writer.proofs.changing.put_side.Given as goal

abbrev pub invariant-loop-key : goal.invariant-loop-key
invariant-loop-key g l =
    (w : IsGoing l.tree l.walk) ×
    ((begin : WriterState) → (whole left : List ℕ) →
    IsSoFar begin (g.W.Sink.contents l.initial.writer, g.W.Sink.failures l.initial.writer) whole
    (flat_map (change_pieces l.is_utf8 l.root) (changes_of l.side l.tree.tree l.other.tree) ++ left)
    l.initial.output.gathered.items l.initial.output.written →
    IsSoFar begin (g.W.Sink.contents l.writer, g.W.Sink.failures l.writer) whole
    (flat_map (change_pieces l.is_utf8 l.root) (all_changes l.side l.other.tree w.now) ++ left)
    l.output.gathered.items l.output.written)
