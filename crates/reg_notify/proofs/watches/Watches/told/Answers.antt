use Rattle.std.proofs.Common.{sym, ap, ◌∙◌}
use Rattle.reg_notify.specs.Tables.{Table, told_to}
use Rattle.reg_notify.proofs.QueueSteps.{told-is}
use Rattle.reg_notify.proofs.watches.Watches.told.Goals as goal

pub returns : goal.returns
returns c =
    c.told_in.ensures
    ∙ sym (told-is c.self.inside.table.queues.items c.args.session)
    ∙ ap (λ (t : Table). told_to t c.args.session) c.self.view_is
