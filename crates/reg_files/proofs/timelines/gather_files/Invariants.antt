use Rattle.std.proofs.Common.{drop, map}
use Rattle.reg_files.proofs.GatheredFiles.{IsAt}
use Rattle.reg_files.proofs.timelines.gather_files.Given as goal

abbrev pub invariant-loop-file : goal.invariant-loop-file
invariant-loop-file g l =
    IsAt l.is_dirty (map (λ file. file.now) l.files) (map (λ file. file.now) (drop l.file-index l.files)) l.timeline l.from l.to
    (g.E.Sink.contents l.fn.errors) (g.E.Sink.contents l.errors) (g.E.Sink.failures l.fn.errors) (g.E.Sink.failures l.errors)
