use Rattle.std.proofs.Common.{length, sym, ap, ◌∙◌}
use Rattle.std.proofs.lemmas.List.{length-map}
use Rattle.reg_notify.specs.Tables.{Table}
use Rattle.reg_notify.specs.Internal.Rows.{watch_at}
use Rattle.reg_notify.proofs.watches.Watches.len.Goals as goal

pub returns : goal.returns
returns c =
    c.len.ensures.len ∙ sym (length-map c.self.inside.table.rows.entries watch_at) ∙ ap (λ (t : Table). length t.pending) c.self.view_is
