use Rattle.std.proofs.Common.{◌∙◌, refl, sym}
use Rattle.reg_sessions.proofs.ReadyJobs.{all_ready, ready_more, ready_there}
use Rattle.reg_sessions.proofs.job.are_ready.Goals as goal

pub returns-then-not-is_ready : goal.returns-then-not-is_ready
returns-then-not-is_ready c = (
  λ ready. cc,
  λ all. sym c.if-not-is_ready.true
      ∙ c.is_ready.ensures.1 (ready_there c.args.hives c.args.jobs.now c.loop-i.i c.index-jobs-i.result c.loop-i-test.true c.index-jobs-i.is all),
)

pub loop-i-preserved : goal.loop-i-preserved
loop-i-preserved c =
    ready_more c.args.hives c.args.jobs.now c.loop-i.i c.index-jobs-i.result c.loop-i-test.true c.index-jobs-i.is c.loop-i.invariant
    (c.is_ready.ensures.0 c.if-not-is_ready.false)

pub returns : goal.returns
returns c = (λ yes. all_ready c.args.hives c.args.jobs.now c.loop-i.i c.loop-i-test.false c.loop-i.invariant, λ all. refl)
