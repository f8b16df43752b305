use Rattle.std.proofs.Common.{ℕ, List, sym, subst}
use Rattle.reg_sessions.specs.declared.job.Job.{Job}
use Rattle.reg_sessions.specs.Jobs.{AreReady}
use Rattle.reg_bench.proofs.crew.drive_all.Goals as goal

pub drive-requires-clause-ready : goal.drive-requires-clause-ready
drive-requires-clause-ready g c κs within =
    subst (λ (js : List Job). AreReady c.args.host.registry.now.hives js) (sym c.as_mut_slice.ensures.value)
    (subst (λ (n : ℕ). AreReady n c.args.jobs.now.items) c.hives.ensures.hives
    (subst (λ (js : List Job). AreReady c.hives.result js) c.as_slice.ensures.value (c.are_ready.ensures.0 c.if-not-are_ready.false)))
