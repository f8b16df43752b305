use Rattle.std.proofs.Common.{arith, sym, ◌∙◌}
use Rattle.reg_files.proofs.CheckedFiles.{goes_on, ends, ends_closed, file_at, none_left}
use Rattle.reg_files.proofs.streams.count_all.Goals as goal

pub loop-file-preserved : goal.loop-file-preserved
loop-file-preserved g c =
    let larger = c.max-status.ensures in
    let one = c.count_file.ensures.status in
    let others = c.loop-file.invariant.status in
    record {
      status = omega (arith, larger, one, others);
      goes = goes_on _ _ _ _ _ _ _ _ _ _ c.loop-file.status c.count_file.result c.max-status.result _ _ _ _ _ _ _
          (file_at (λ file. file.now) c.args.files.now c.loop-file.file-index _ c.loop-file-test.true) larger
          (sym c.is_closed.ensures ∙ c.if-is_closed.false)
          c.loop-file.invariant.goes c.count_file.ensures.checks;
    }

pub returns-clause-checks : goal.returns-clause-checks
returns-clause-checks g c =
    ends _ _ _ _ _ _ _ _ c.loop-file.status _ _ _ _ (none_left (λ file. file.now) c.args.files.now c.loop-file.file-index c.loop-file-test.false)
    c.loop-file.invariant.goes

pub returns-then-is_closed-clause-checks : goal.returns-then-is_closed-clause-checks
returns-then-is_closed-clause-checks g c =
    ends_closed _ _ _ _ _ _ _ _ _ _ c.loop-file.status c.count_file.result c.max-status.result _ _ _ _ _ _ _
    (file_at (λ file. file.now) c.args.files.now c.loop-file.file-index _ c.loop-file-test.true) c.loop-file.invariant.status
    (sym c.is_closed.ensures ∙ c.if-is_closed.true) c.loop-file.invariant.goes c.count_file.ensures.checks
