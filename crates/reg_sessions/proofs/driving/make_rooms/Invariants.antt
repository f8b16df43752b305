use Rattle.std.proofs.Common.{◌<◌, ℕ, length, slice_index_or}
use Rattle.reg_sessions.specs.Jobs.{HasRoom, IsSameJob}
use Rattle.reg_sessions.specs.declared.job.Job.{Job}
use Rattle.reg_sessions.proofs.driving.make_rooms.Given as goal

abbrev pub invariant-loop-i : goal.invariant-loop-i
invariant-loop-i l =
    ((k : ℕ) (d : Job) → k < length l.initial.jobs → IsSameJob (slice_index_or l.initial.jobs k d) (slice_index_or l.jobs k d))
    × ((k : ℕ) (d : Job) → k < l.i → HasRoom (slice_index_or l.jobs k d))
