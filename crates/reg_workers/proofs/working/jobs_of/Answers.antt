use Rattle.std.proofs.Common.{◌<◌, ◌∙◌, ℕ, length, sym, arith, rules}
use Rattle.std.specs.Vec.Iter.{into_iter_items}
use Rattle.reg_sessions.specs.declared.job.Job.{Job}
use Rattle.reg_sessions.specs.Sessions.{session_of}
use Rattle.reg_workers.specs.Internal.Parts.{part_at}
use Rattle.reg_workers.specs.Internal.Working.{IsJob}
use Rattle.reg_workers.proofs.WorkedJobs.{session_next, grown, job_at, kept_replies, kept_later}
use Rattle.reg_workers.proofs.working.jobs_of.Goals as goal

pub loop-session-preserved : goal.loop-session-preserved
loop-session-preserved c =
    let is = sym c.in-Some.ensures.steps.0 ∙ c.loop-session.invariant.2 in
    let below : c.loop-session.at < length c.args.sessions.items = omega (arith, c.in-Some.ensures.steps.1, c.loop-session.invariant.3) in
    let inside : c.loop-session.at < length c.loop-session.parts.items = omega (arith, below, c.loop-session.invariant.4, c.requires) in
    let next = session_next c.args.sessions.items c.loop-session.at c.in-Some.session (into_iter_items c.next.new.self) below is in (
      tt,
      tt,
      next.1,
      omega (arith, c.in-Some.ensures.steps.1, c.loop-session.invariant.3),
      search rules,
      search rules,
      grown (λ (s : ℕ) (j : Job). IsJob (session_of c.args.sessions.items s) (part_at s c.args.parts.now.items) j) c.loop-session.jobs.items _ c.loop-session.at
          c.job_of-job.result c.in_ok-push.ensures.items c.loop-session.invariant.5 c.loop-session.invariant.6
          (job_at c.args.sessions.items c.args.parts.now.items c.loop-session.parts.items c.loop-session.at c.in-Some.session c.index_mut.result.now c.job_of-job.result
          next.0 inside (search rules) (c.loop-session.invariant.8 c.loop-session.at (omega arith)) c.job_of-job.ensures.job),
      (λ s.
          kept_replies c.loop-session.parts.items c.loop-session.at s c.index_mut.result.now c.job_of-job.new.part inside (search rules) c.job_of-job.ensures.replies
          ∙ c.loop-session.invariant.7 s),
      (λ s later. kept_later c.loop-session.parts.items c.loop-session.at s c.job_of-job.new.part later ∙ c.loop-session.invariant.8 s (omega (arith, later))),
    )
