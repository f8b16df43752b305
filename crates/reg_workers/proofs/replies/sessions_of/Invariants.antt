use Rattle.std.proofs.Common.{◌≡◌, ◌++◌, map}
use Rattle.std.specs.Vec.Iter.{into_iter_items}
use Rattle.reg_sessions.specs.declared.job.Job.{Job}
use Rattle.reg_workers.proofs.replies.sessions_of.Given as goal

abbrev pub invariant-loop-job : goal.invariant-loop-job
invariant-loop-job l =
    (goal.iterator-loop-job).can_next l.job-iterator
    × (goal.iterator-loop-job).is_finite l.job-iterator
    × (l.sessions.items ++ map (λ (j : Job). j.session) (into_iter_items l.job-iterator) ≡ map (λ (j : Job). j.session) l.fn.jobs.items)
