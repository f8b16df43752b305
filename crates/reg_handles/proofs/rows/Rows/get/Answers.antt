use Rattle.std.proofs.Common.{◌∙◌, sym}
use Rattle.reg_handles.proofs.RowOrder.{lookup_ordered}
use Rattle.reg_handles.proofs.rows.Rows.get.Goals as goal

pub returns : goal.returns
returns c = c.get.ensures.value ∙ sym (lookup_ordered c.args.number c.args.self.now.by_number.entries)
