use Rattle.std.proofs.Common.{ℕ, List, ◌++◌, map, drop, string_bytes}
use Rattle.reg_tree_text.specs.Internal.Gathered.{WriterState, IsSoFar}
use Rattle.reg_tables.specs.Timelines.{timed, form_lines}
use Rattle.reg_tables.proofs.timeline.put_keys.Given as goal

abbrev pub invariant-loop-key : goal.invariant-loop-key
invariant-loop-key g l =
    (begin : WriterState) → (whole left : List ℕ) →
    IsSoFar begin (g.S.Sink.contents l.initial.writer, g.S.Sink.failures l.initial.writer) whole
    (form_lines l.form (map (λ n. n.now) l.names) (map timed l.keys) ++ left)
    (string_bytes l.initial.output.gathered) l.initial.output.written →
    IsSoFar begin (g.S.Sink.contents l.writer, g.S.Sink.failures l.writer) whole
    (form_lines l.form (map (λ n. n.now) l.names) (map timed (drop l.key-index l.keys)) ++ left)
    (string_bytes l.output.gathered) l.output.written
