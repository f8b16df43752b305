use Rattle.std.proofs.Common.{sym, ◌∙◌}
use Rattle.reg_model.specs.declared.notice.Reason.TheVariants.{Matched}
use Rattle.reg_notify.specs.Internal.Hits.{of_class}
use Rattle.reg_model.specs.Internal.TextNumbers.{goes_on}
use Rattle.reg_notify.specs.Internal.Rows.{place_of}
use Rattle.reg_notify.proofs.EndsSteps.{each, ends-never, ends-test}
use Rattle.reg_notify.proofs.HitSteps.{class-met, class-not_met}
use Rattle.reg_notify.proofs.table.Table.end_class.Goals as goal

pub returns-then-not-is_met-clause-ends : goal.returns-then-not-is_met-clause-ends
returns-then-not-is_met-clause-ends c =
    ends-never _ (of_class c.args.text.now.items c.args.bits c.args.itself c.args.class) Matched c.args.self.now c.requires.ready
    (λ e. class-not_met _ _ (place_of e.0 e.1) (sym c.is_met.ensures ∙ c.if-not-is_met.true))

pub returns-clause-ends : goal.returns-clause-ends
returns-clause-ends c =
    ends-test _ (λ e. goes_on c.append.new.text.items (place_of e.0 e.1))
    (of_class c.args.text.now.items c.args.bits c.args.itself c.args.class) Matched c.args.self.now c.end_past.new.self
    (each _ (λ e. class-met _ _ _ (place_of e.0 e.1) (sym c.is_met.ensures ∙
    c.if-not-is_met.false) c.append.ensures.text) c.args.self.now.rows.entries) c.end_past.ensures
