use Rattle.std.proofs.Common.{◌≡◌, ◌+◌, ℕ, length, arith, rules}
use Rattle.reg_callbacks.specs.declared.callback.NoCallback.{NoCallback}
use Rattle.reg_calls.specs.declared.hive.Hive.{Hive}
use Rattle.reg_sessions.specs.Locked.{IsUnused}
use Rattle.reg_workers.proofs.WorkedJobs.{grown}
use Rattle.reg_workers.proofs.working.fresh_hives.Goals as goal

pub loop-number-preserved : goal.loop-number-preserved
loop-number-preserved c =
    let long : length c.push.new.self.items ≡ c.loop-number._number + 1 = search rules in (
      search rules,
      (λ i d below.
          grown (λ (s : ℕ) (h : Hive NoCallback). IsUnused h) c.loop-number.hives.items _ c.loop-number._number _ c.in_ok-push.ensures.items c.loop-number.invariant.0
          (λ s e b. c.loop-number.invariant.1 s e (omega (arith, b, c.loop-number.invariant.0))) c.in_ok-fresh_hive.ensures i d (omega (arith, below, long))),
    )
