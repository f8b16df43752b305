use Rattle.std.proofs.Common.{List, sym, subst}
use Rattle.reg_sessions.specs.declared.job.Job.{Job}
use Rattle.reg_sessions.specs.Jobs.{AreReady}
use Rattle.reg_workers.proofs.working.run_jobs.Goals as goal

pub drive-requires-clause-ready : goal.drive-requires-clause-ready
drive-requires-clause-ready g c κs within =
    subst (λ (js : List Job). AreReady c.args.registry.now.hives js) (sym c.as_mut_slice.ensures.value) c.requires.ready
