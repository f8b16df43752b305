use Rattle.std.proofs.Common.{◌≤◌, ◌∙◌, subst, sym}
use Rattle.reg_calls.specs.Views.{next_of}
use Rattle.reg_sessions.specs.Locked.{Held}
use Rattle.reg_sessions.proofs.Admitted.{lacked, never-zero, not-behind, status_is}
use Rattle.reg_sessions.proofs.locked.Locked.lack.Goals as goal

pub returns-clause-refused : goal.returns-clause-refused
returns-clause-refused g c = λ z. never-zero c.cause.result c.cause.ensures (sym (status_is _ _ c.lacking.ensures) ∙ z)

pub returns-clause-lawful : goal.returns-clause-lawful
returns-clause-lawful g c =
    lacked g.C.Callback.answers c.self.inside.hive _ c.args.mark _ _ c.cause.result c.lacking.result c.cause.ensures c.self.invariant.0
    (subst (λ (b : Held). c.args.mark ≤ next_of b.view) (sym c.self.view_is) (not-behind c.is_behind.result _ _ c.is_behind.ensures.behind.1 c.if-is_behind.false))
    c.lacking.ensures
