use Rattle.std.proofs.Common.{◌<◌, ℕ, slice_index_or}
use Rattle.reg_sessions.specs.declared.job.Work.{Work}
use Rattle.reg_sessions.proofs.job.are_within.Given as goal

abbrev pub invariant-loop-i : goal.invariant-loop-i
invariant-loop-i l = (k : ℕ) (d : Work) → k < l.i → (slice_index_or l.work k d).hive < l.hives
