use Rattle.std.proofs.Common.{arith}
use Rattle.reg_written.proofs.UseCounts.{run-start, run-more}
use Rattle.reg_written.proofs.uses.run_end.Goals as goal

pub loop-end-init : goal.loop-end-init
loop-end-init c = run-start _ _ c.requires

pub loop-end-preserved : goal.loop-end-preserved
loop-end-preserved c =
    run-more c.args.used.now c.args.start c.loop-end.end (omega arith) c.loop-end-test.true c.if-used-end.false c.loop-end.invariant
