use Rattle.std.proofs.Common.{List, sym, ap, ◌∙◌}
use Rattle.std.specs.Prelude.{slice_get}
use Rattle.reg_model.specs.declared.notice.Notice.{Notice}
use Rattle.reg_notify.specs.Tables.{Table, told_to, taken_by}
use Rattle.reg_notify.specs.Internal.Queues.{taken_at}
use Rattle.reg_notify.proofs.QueueSteps.{told-is, taken-is}
use Rattle.reg_notify.proofs.watches.Watches.first.Goals as goal

pub returns : goal.returns
returns c =
    let qs = c.self.inside.table.queues.items in
    let s = c.args.session in
    c.first_in.ensures
    ∙ ap (λ (l : List Notice). slice_get l (taken_at qs s)) (sym (told-is qs s) ∙ ap (λ (t : Table). told_to t s) c.self.view_is)
    ∙ ap (slice_get (told_to c.args.self.now s)) (sym (taken-is qs s) ∙ ap (λ (t : Table). taken_by t s) c.self.view_is)
