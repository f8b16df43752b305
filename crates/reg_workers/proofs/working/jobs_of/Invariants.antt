use Rattle.std.proofs.Common.{◌≡◌, ◌+◌, ◌≤◌, ◌<◌, ℕ, drop, length, slice_index_or}
use Rattle.std.specs.Vec.Iter.{into_iter_items, into_iter_len}
use Rattle.reg_sessions.specs.declared.job.Job.{Job}
use Rattle.reg_sessions.specs.Sessions.{session_of}
use Rattle.reg_workers.specs.Internal.Parts.{part_at}
use Rattle.reg_workers.specs.Internal.Working.{IsJob, HaveReplies}
use Rattle.reg_workers.proofs.working.jobs_of.Given as goal

abbrev pub invariant-loop-session : goal.invariant-loop-session
invariant-loop-session l =
    (goal.iterator-loop-session).can_next l.session-iterator
    × (goal.iterator-loop-session).is_finite l.session-iterator
    × (into_iter_items l.session-iterator ≡ drop l.at l.fn.sessions.items)
    × (into_iter_len l.session-iterator + l.at ≡ length l.fn.sessions.items)
    × (length l.parts.items ≡ length l.fn.parts.items)
    × (length l.jobs.items ≡ l.at)
    × ((s : ℕ) (d : Job) → s < l.at → IsJob (session_of l.fn.sessions.items s) (part_at s l.fn.parts.items) (slice_index_or l.jobs.items s d))
    × HaveReplies l.fn.parts.items l.parts.items
    × ((s : ℕ) → l.at ≤ s → part_at s l.parts.items ≡ part_at s l.fn.parts.items)
