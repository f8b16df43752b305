use Rattle.reg_workers.proofs.WorkedJobs.{ready, worked}
use Rattle.reg_workers.proofs.working.do_parts.Goals as goal

pub run_jobs-requires-clause-ready : goal.run_jobs-requires-clause-ready
run_jobs-requires-clause-ready g c κs within =
    ready c.args.registry.now.hives c.args.sessions.items c.args.parts.now.items c.in_ok-jobs.jobs.items c.in_ok-jobs.ensures.jobs c.requires.count c.requires.fresh
    c.requires.within

pub returns-clause-jobs : goal.returns-clause-jobs
returns-clause-jobs g c =
    worked g.C.Callback.answers c.args.registry.now.hives c.args.sessions.items c.args.parts.now.items c.in_ok-jobs.jobs.items _ c.in_ok-jobs.ensures.jobs
    c.requires.count c.requires.fresh c.in_ok-run_jobs.ensures.len c.in_ok-run_jobs.ensures.done
