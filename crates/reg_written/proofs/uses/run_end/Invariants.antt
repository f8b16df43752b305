use Rattle.reg_written.proofs.UseCounts.{Runs}
use Rattle.reg_written.proofs.uses.run_end.Given as goal

abbrev pub invariant-loop-end : goal.invariant-loop-end
invariant-loop-end l = Runs l.used l.start l.end
