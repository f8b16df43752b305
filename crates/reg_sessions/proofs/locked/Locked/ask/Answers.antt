use Rattle.std.proofs.Common.{◌≤◌, ℕ, subst, sym}
use Rattle.reg_calls.specs.Views.{next_of}
use Rattle.reg_sessions.specs.Locked.{Held}
use Rattle.reg_sessions.proofs.Admitted.{count-at, lawful-answer, not-behind}
use Rattle.reg_sessions.proofs.locked.Locked.ask.Goals as goal

pub returns-clause-later : goal.returns-clause-later
returns-clause-later g c = λ other. (
  count-at c.read.ensures c.self.invariant.0 other,
  subst (λ (n : ℕ). c.args.mark ≤ n) (sym c.read.ensures.at)
      (subst (λ (b : Held). c.args.mark ≤ next_of b.view) (sym c.self.view_is) (not-behind c.is_behind.result _ _ c.is_behind.ensures.behind.1 c.if-is_behind.false)),
)

pub returns-clause-lawful : goal.returns-clause-lawful
returns-clause-lawful g c =
    lawful-answer g.C.Callback.answers c.self.inside.hive _ c.args.mark _ _ c.read.ensures c.self.invariant.0
    (subst (λ (b : Held). c.args.mark ≤ next_of b.view) (sym c.self.view_is) (not-behind c.is_behind.result _ _ c.is_behind.ensures.behind.1 c.if-is_behind.false))
