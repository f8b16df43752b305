use Rattle.std.proofs.Common.{subst}
use Rattle.reg_model.specs.declared.notice.Reason.TheVariants.{Gone}
use Rattle.reg_model.specs.Internal.TextNumbers.{goes_on}
use Rattle.reg_notify.specs.Internal.Rows.{place_of}
use Rattle.reg_notify.specs.Internal.Firing.{if_passes}
use Rattle.reg_notify.specs.Internal.States.{Ends}
use Rattle.reg_notify.proofs.table.Table.end_gone.Goals as goal

pub returns-clause-ends : goal.returns-clause-ends
returns-clause-ends c =
    subst (λ s. Ends c.args.by
    (if_passes (λ e. goes_on s (place_of e.0 e.1)) Gone) c.args.self.now c.end_past.new.self) c.append_byte.ensures.text c.end_past.ensures
