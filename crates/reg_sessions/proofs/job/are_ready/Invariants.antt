use Rattle.std.proofs.Common.{◌<◌, ℕ, slice_index_or}
use Rattle.reg_sessions.specs.Jobs.{IsReady}
use Rattle.reg_sessions.specs.declared.job.Job.{Job}
use Rattle.reg_sessions.proofs.job.are_ready.Given as goal

abbrev pub invariant-loop-i : goal.invariant-loop-i
invariant-loop-i l = (k : ℕ) (d : Job) → k < l.i → IsReady l.hives (slice_index_or l.jobs k d)
