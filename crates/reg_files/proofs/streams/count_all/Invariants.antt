use Rattle.std.proofs.Common.{◌≤◌, drop, map}
use Rattle.reg_files.proofs.CheckedFiles.{Goes}
use Rattle.reg_files.proofs.streams.count_all.Given as goal

abbrev pub invariant-loop-file : goal.invariant-loop-file
invariant-loop-file g l = record {
  status : l.status ≤ 1;
  goes : Goes l.is_dirty l.is_verbose l.is_named (map (λ file. file.now) l.files) (map (λ file. file.now) (drop l.file-index l.files)) l.status
      (g.W.Write.contents l.fn.output) (g.W.Write.contents l.output) (g.E.Sink.contents l.fn.errors) (g.E.Sink.contents l.errors)
      (g.E.Sink.failures l.fn.errors) (g.E.Sink.failures l.errors);
}
