use Rattle.std.proofs.Common.{ℕ, List, ◌++◌, ◌-◌, length, drop, string_bytes}
use Rattle.reg_text.specs.Texts.{escaped}
use Rattle.reg_tree_text.specs.Internal.Gathered.{WriterState, IsSoFar}
use Rattle.reg_tree_text.proofs.output.put_escaped.Given as goal

abbrev pub invariant-loop-from : goal.invariant-loop-from
invariant-loop-from g l =
    (begin : WriterState) → (whole left : List ℕ) →
    IsSoFar begin (g.W.Sink.contents l.initial.writer, g.W.Sink.failures l.initial.writer) whole (escaped l.name ++ left)
    (string_bytes l.initial.output.gathered) l.initial.output.written →
    IsSoFar begin (g.W.Sink.contents l.writer, g.W.Sink.failures l.writer) whole (escaped (drop l.from l.name) ++ left) (string_bytes l.output.gathered) l.output.written

abbrev pub decreases-loop-from : goal.decreases-loop-from
decreases-loop-from g l = length l.name - l.from
