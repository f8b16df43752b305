use Rattle.std.proofs.Common.{◌≤◌, arith, subst}
use Rattle.reg_calls.specs.Views.{next_of}
use Rattle.reg_sessions.specs.Locked.{Held}
use Rattle.reg_sessions.proofs.locked.Locked.is_behind.Goals as goal

pub returns-clause-few : goal.returns-clause-few
returns-clause-few g c =
    let first = c.len.ensures.first in
    let small = c.len.ensures.hive.small in
    subst (λ (b : Held). next_of b.view ≤ 1000000000016777216) c.self.view_is (omega (arith, first, small))
