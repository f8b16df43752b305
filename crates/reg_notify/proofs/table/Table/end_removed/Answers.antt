use Rattle.std.proofs.Common.{refl, sym, subst}
use Rattle.reg_model.specs.declared.notice.Reason.TheVariants.{Gone}
use Rattle.reg_notify.specs.declared.asked.Removed.TheVariants.{Nothing}
use Rattle.reg_notify.specs.Internal.Hits.{is_gone}
use Rattle.reg_notify.specs.Internal.Firing.{if_passes}
use Rattle.reg_notify.specs.Internal.States.{Ends}
use Rattle.reg_notify.proofs.EndsSteps.{ends-never}
use Rattle.reg_notify.proofs.table.Table.end_removed.Goals as goal

pub returns-in-Nothing : goal.returns-in-Nothing
returns-in-Nothing c = subst (λ r. Ends c.args.by (if_passes (is_gone r) Gone) c.args.self.now c.args.self.now) (sym c.in-Nothing.is)
    (ends-never _ (is_gone Nothing) Gone c.args.self.now c.requires (λ e. refl))
