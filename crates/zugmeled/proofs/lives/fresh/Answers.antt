use Rattle.std.proofs.Common.{refl, inr, ap, is_ok, true≢false}
use Rattle.zugmeled.proofs.Beginnings.{good-root}
use Rattle.zugmeled.proofs.lives.fresh.Goals as goal

pub returns-in-None-clause-fault : goal.returns-in-None-clause-fault
returns-in-None-clause-fault c =
    let new = c.in-Ok.ensures in
    inr (
      refl,
      good-root c.args.root_name.now c.args.descriptor.now (λ bad. true≢false (ap is_ok (new.name.1 bad)))
          (λ bad. true≢false (ap is_ok (new.descriptor.1 bad))),
    )
